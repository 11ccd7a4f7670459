-- `levels::prepare`: before position i both arrays are right from i on.
use Prim.Native.Nat.{◌-◌, ◌/◌, ◌<◌}
use mathlib.Core.Path.{◌∙◌}
use native.Mathlib.Omega.{arith}
use lib.ListN.{length, get_or, length-set}
use Rattle.history_file.specs.believed.HistoryFile.{tokens_of}
use Rattle.levels.proofs.Levels.{kind_token, tokens_length, close_most, matched_end, top_end, top_turn, matched_turn, leveled_end, leveled_turn}
use Rattle.levels.proofs.prepare.Goals as goal

pub loop-i-init : goal.loop-i-init
loop-i-init c =
    let room : length c.args.tokens.now < 1025 = omega (arith, c.requires.tokens.few) in (
      length-set c.args.closes.now (length c.args.tokens.now) (length c.args.tokens.now) ∙ c.requires.closes_len.0,
      length-set c.args.masks.now (length c.args.tokens.now) c.word_of.result ∙ c.requires.closes_len.1,
      top_end c.args.tokens.now,
      matched_end c.args.tokens.now c.args.closes.now (rw c.requires.closes_len.0 room),
      leveled_end c.args.grammar.now.table.now c.args.grammar.now.head c.args.grammar.now.indexed c.args.tokens.now c.args.masks.now c.word_of.result (rw c.requires.closes_len.1 room) (rw c.ends.ensures at c.word_of.ensures),
    )

pub close_at-beyond-requires : goal.close_at-beyond-requires
close_at-beyond-requires c =
    omega (arith, c.requires.tokens.few, tokens_length c.args.tokens.now, c.loop-i.invariant.2, close_most (tokens_of c.args.tokens.now) c.loop-i.i)

pub overflow_cast-closes-in-loop-i : goal.overflow_cast-closes-in-loop-i
overflow_cast-closes-in-loop-i c =
    omega (arith, c.requires.tokens.few, tokens_length c.args.tokens.now, c.loop-i.invariant.2, close_most (tokens_of c.args.tokens.now) c.loop-i.i)

pub context_in-context-requires-clause-matched : goal.context_in-context-requires-clause-matched
context_in-context-requires-clause-matched c =
    matched_turn c.args.tokens.now c.loop-i.closes c.loop-i.i c.loop-i.top c.loop-i-test.true c.loop-i.auto.i (omega (arith, c.requires.tokens.few, c.loop-i.invariant.0)) c.loop-i.invariant.2 c.loop-i.invariant.3

pub loop-i-preserved : goal.loop-i-preserved
loop-i-preserved c =
    let long : length c.args.tokens.now < length c.loop-i.closes = omega (arith, c.requires.tokens.few, c.loop-i.invariant.0) in
    let t = get_or c.args.tokens.now (c.loop-i.i - 1) 0 in
    let top = rw (c.close_at-beyond.ensures, c.from.ensures, kind_token t) at (c.next_top-top.ensures (t / 4)) ∙ top_turn c.args.tokens.now c.loop-i.closes c.loop-i.i c.loop-i.top c.loop-i-test.true c.loop-i.auto.i c.loop-i.invariant.2 c.loop-i.invariant.3 in (
      length-set c.loop-i.closes (c.loop-i.i - 1) c.loop-i.top ∙ c.loop-i.invariant.0,
      length-set c.loop-i.masks (c.loop-i.i - 1) c.word_of-in-loop-i.result ∙ c.loop-i.invariant.1,
      top,
      matched_turn c.args.tokens.now c.loop-i.closes c.loop-i.i c.loop-i.top c.loop-i-test.true c.loop-i.auto.i long c.loop-i.invariant.2 c.loop-i.invariant.3,
      leveled_turn c.args.grammar.now.table.now c.args.grammar.now.head c.args.grammar.now.indexed c.args.tokens.now c.loop-i.masks c.loop-i.i c.context_in-context.result c.next_top-top.result c.word_of-in-loop-i.result c.loop-i-test.true (omega (arith, c.loop-i.auto.i, c.loop-i.invariant.1, c.requires.tokens.few)) c.loop-i.invariant.4 (c.context_in-context.ensures.0 c.args.grammar.now.head.well) top (rw c.level.ensures at c.word_of-in-loop-i.ensures),
    )
