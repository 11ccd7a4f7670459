-- Definition 2.2 on one grammar, each by computing what the definition gives.
use native.Mathlib.Omega.{arith}
use mathlib.Core.Path.{refl}
use Rattle.vpg.specs.Runs.{runs}
use Rattle.examples.specs.General.{GeneralExamples}

pub general : GeneralExamples
unfolding runs
general = record {
  open_alone = λ p. omega arith;
  close_alone = λ p. omega arith;
  on_to_well = λ p. omega arith;
  step_outside = (omega arith, λ p. omega arith);
  not_open_alone = λ f. grind arith;
  not_close_alone = λ f. grind arith;
  not_on_from_well = λ f. grind arith;
  not-behind_well = λ f. grind arith;
  not_inside = λ f. grind arith;
  cut_behind = refl;
  cut_before = refl;
  cut_both = refl;
  two_ways = refl;
  behind-step = refl;
  inside = refl;
  no_close_then = refl;
  step_then = refl;
  well_open = refl;
  well_close = refl;
  well_step = refl;
}
