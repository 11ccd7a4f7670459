-- The stop mark says whether the configuration accepts.
use Prim.Native.Nat.{ℕ, zero, suc}
use mathlib.Core.Path.{◌≡◌, refl, sym, ◌∙◌, ap}
use mathlib.Core.Bool.{Bool, true, false, cond, ◌&&◌, ◌||◌}
use mathlib.Core.List.{List, [], ◌∷◌}
use lib.Dec.{eqb, leb, eqb-suc-zero}
use Rattle.bits.specs.Bit.{bit}
use Rattle.vpg.specs.believed.Grammar.{Grammar}
use Rattle.laws.proofs.Any.{below_same}
use Rattle.pair_theory.specs.Pairs.{PairStack, Configuration, bottom, free, finished, accepts, Within}
use Rattle.pair_theory.proofs.Pairs.{accepts_inside}
use Rattle.sets_theory.specs.believed.Sets.{one}
use Rattle.tables.specs.declared.Head.{Head}
use Rattle.tables.specs.declared.Table.{Table}
use Rattle.tables.proofs.Tables.{ready_general}
use Rattle.rule_index.specs.Index.{Indexed, ends_in}
use Rattle.pair_states.specs.Finished.{finished_of, may_end}
use Rattle.pair_states.specs.Wide.{wide_grammar}
use Rattle.pair_states.proofs.Finished.{finished_members, finished-some}
use Rattle.pair_states.specs.declared.Opened.{Opened}
use Rattle.configurations.specs.declared.stack.Stack.{Stack}
use Rattle.configurations.specs.Stack.{Saved, Holds}
use Rattle.stop_marks_core.specs.MarkOf.{mark_of}

-- no open is unmatched exactly where the stack is empty
saved_bottom : (opened : List Opened) (d : ℕ) (T : PairStack) → Saved opened d T → eqb d 0 ≡ bottom T
saved_bottom opened zero [] x = refl
saved_bottom opened zero (y ∷ T) x = absurd x
saved_bottom opened (suc d) [] x = absurd x
saved_bottom opened (suc d) (y ∷ T) x = eqb-suc-zero d

-- the marks agree
pub mark-accepts : (table : Table) (head : Head) → Indexed table head → (rows : List ℕ) (stack : Stack) (x : Configuration) → Holds rows stack x → Within (wide_grammar table head) x →
    mark_of stack.depth rows (ends_in table) head ≡ one (accepts (wide_grammar table head) x)
mark-accepts table head indexed rows stack x h w =
    ap (λ (b : Bool). one (cond b (may_end rows (ends_in table)) inside)) (saved_bottom stack.opened stack.depth x.1 h.saved) ∙ ap one (go (bottom x.1) refl)
  where
    g : Grammar
    g = wide_grammar table head

    inside : Bool
    inside = leb head.well head.start && bit (finished_of rows (ends_in table) 32) head.start

    go : (b : Bool) → bottom x.1 ≡ b → cond b (may_end rows (ends_in table)) inside ≡ accepts g x
    go true q =
        finished-some table head indexed rows x.0 h.state
        ∙ below_same 32 (finished g x.0) (λ L. free g x.1 L && finished g x.0 L) (λ L l. ap (λ (b : Bool). (b || leb head.well L) && finished g x.0 L) (sym q))
    go false q =
        ap (λ (b : Bool). leb head.well head.start && b) (finished_members table head indexed rows x.0 h.state head.start indexed.ready.start_small)
        ∙ sym (accepts_inside g (ready_general table head indexed.ready) x w q)
