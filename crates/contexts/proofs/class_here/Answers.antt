-- `class_here`: the class by kind and name is the token's.
use mathlib.Core.Path.{refl}
use Rattle.rule_index.proofs.Classes.{class_small}
use Rattle.contexts.specs.Context.{code, token_here}
use Rattle.contexts.proofs.Forms.{class_here}
use Rattle.contexts.proofs.class_here.Goals as goal

pub returns : goal.returns
returns c = rw (c.class_by.ensures, c.from.ensures, class_here (code c.args.context.kind) c.args.context.name) (refl, class_small (token_here c.args.context))
