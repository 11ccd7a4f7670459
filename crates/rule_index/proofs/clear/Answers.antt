-- `rule_index::clear` meets its contract.
use mathlib.Core.Path.{refl}
use lib.ListN.{length-replicate, get_or-replicate}
use Rattle.rule_index.proofs.Building.{index_none}
use Rattle.rule_index.proofs.clear.Goals as goal

pub returns : goal.returns
returns c = (
  record {
    size = record {
      rules = c.requires.0.rules;
      first = length-replicate 256 c.args.rules;
      next = length-replicate 128 c.args.rules;
      inside = c.requires.0.inside;
      after = c.requires.0.after;
    };
    rules = refl;
  },
  index_none _ _ (λ k l. get_or-replicate 256 k c.args.rules 0 l),
)
