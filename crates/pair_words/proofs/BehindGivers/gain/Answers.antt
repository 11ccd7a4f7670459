-- `gain` behind a close: the rule is a step with these names whose inside may be finished, and a word gains what it gives; or nothing changes.
use mathlib.Core.Path.{refl, sym, ◌∙◌}
use Rattle.pair_words.proofs.Sixes.{gains_behind, gains_unfinished, gains_unlike}
use Rattle.pair_words.proofs.BehindGivers.gain.Goals as goal
use Rattle.pair_words.proofs.BehindGivers.gain.Goals.{else-is_step-via-then-is_step+else-has, else-is_step-via-else-is_step}

pub returns-then-has : goal.returns-then-has
returns-then-has c =
    gains_behind c.args.grammar.now.table.now c.args.k c.args.self.now.open_name c.args.self.now.close_name _ c.six_in-v.ensures c.args.self.now.done c.args.self.now.from.now c.args.out.now _ _ (sym c.is_step.ensures ∙ c.if-is_step.true)
    (sym c.has.ensures ∙ c.if-has.true)
    refl
    refl

pub returns-else-is_step : goal.returns-else-is_step
returns-else-is_step c =
    elim c.else-is_step.branch [
      | else-is_step-via-then-is_step+else-has w ↦
          gains_unfinished c.args.grammar.now.table.now c.args.k c.args.self.now.open_name c.args.self.now.close_name _ c.six_in-v.ensures c.args.self.now.done c.args.self.now.from.now c.args.out.now (sym c.is_step.ensures ∙ w.if-is_step.true)
          (sym w.has.ensures ∙ w.if-has.false)
      | else-is_step-via-else-is_step w ↦
          gains_unlike c.args.grammar.now.table.now c.args.k c.args.self.now.open_name c.args.self.now.close_name _ c.six_in-v.ensures c.args.self.now.done c.args.self.now.from.now c.args.out.now (sym c.is_step.ensures ∙ w.if-is_step.false)
    ]
