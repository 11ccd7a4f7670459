-- The set at a position, choices and stop marks (document 01, "Readings"; document 02, 2.5).
-- Clauses: 4.1, 4.3, 4.4, 7.6 (docs/SPECIFICATION.md)
use Rattle.std.specs.Prelude.{ℕ, zero, suc, ◌+◌, ◌*◌, ◌/◌, ◌%◌, ◌^◌, ◌≡◌, ◌≢◌, Bool, true, false, List, [], ◌∷◌, length, take}
use Rattle.std.proofs.Math.Option.{some}
use Rattle.std.proofs.Math.ListN.{get_elem?}
use Rattle.vpg.specs.declared.Rule.{Rule}
use Rattle.vpg.specs.declared.Token.{Token}
use Rattle.vpg.specs.believed.Grammar.{Grammar, Reading, left}
use Rattle.vpg.specs.Runs.{entries}
use Rattle.sets_theory.specs.ChoiceTest.{choice}
use Rattle.sets_theory.specs.KeptTest.{kept}

-- "the rules that stand there in at least one reading": rule number r is in the set at position p
abbrev pub Kept : Grammar → List Token → ℕ → ℕ → Type 0
Kept g w p r = (e : List ℕ) × Reading g w e × (get_elem? e p ≡ some r)

-- and it is a rule of the nonterminal L
abbrev pub KeptFor : Grammar → List Token → ℕ → ℕ → ℕ → Type 0
KeptFor g w p L r = Kept g w p r × ((R : Rule) × (get_elem? g.rules r ≡ some R) × (left R ≡ L))

-- document 02, 2.5: "a position is now a choice when its set holds two rules of one and the same stage"
abbrev pub Choice : Grammar → List Token → ℕ → Type 0
Choice g w p = (L : ℕ) × (r : ℕ) × (r' : ℕ) × (r ≢ r') × KeptFor g w p L r × KeptFor g w p L r'

-- 1 where a test passes, else 0
abbrev pub one : Bool → ℕ
one true = 1
one false = 0

-- how many of the numbers below n pass a test
unfoldable pub count : ℕ → (ℕ → Bool) → ℕ
count zero f = 0
count (suc n) f = one (f n) + count n f

-- document 02, 2.5, "the count of choices": how many of the positions 0 to n are choices
unfoldable pub choice_count : Grammar → List Token → ℕ
choice_count g w = count (suc (length w)) (choice g w)

-- 1 where there is an entry
abbrev pub marked : List (List ℕ) → ℕ
marked [] = 0
marked (e ∷ l) = 1

-- "1 exactly when the first i tokens alone have a reading, else 0"
unfoldable pub stop_mark : Grammar → List Token → ℕ → ℕ
stop_mark g w i = marked (entries g (take i w))

-- f 0, f 1 and so on, n of them
abbrev pub listed : {A : Type 0} → ℕ → (ℕ → A) → List A
listed zero f = []
listed (suc n) f = f 0 ∷ listed n (λ i. f (suc i))

-- document 01, "Services": the marks of the positions 0 to n, in order
unfoldable pub stop_marks : Grammar → List Token → List ℕ
stop_marks g w = listed (suc (length w)) (stop_mark g w)

-- the number whose digits 0 to n - 1 are 1 exactly where a test passes: "bit b (worth 2^b)"
unfoldable pub word_of : ℕ → (ℕ → Bool) → ℕ
word_of zero f = 0
word_of (suc n) f = one (f n) * 2 ^ n + word_of n f

-- word k of position p: "rule 32k + b as bit b (worth 2^b) of word k, every bit outside the set 0"
unfoldable pub set_word : Grammar → List Token → ℕ → ℕ → ℕ
set_word g w p k = word_of 32 (λ b. kept g w p (32 * k + b))

-- "four 32-bit words for each position, n + 1 positions, those of position p from element 4p on"
unfoldable pub set_words : Grammar → List Token → List ℕ
set_words g w = listed (4 * suc (length w)) (λ i. set_word g w (i / 4) (i % 4))
