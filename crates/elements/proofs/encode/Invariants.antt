-- `elements::encode` meets its contract.
use Rattle.elements.proofs.Encoding.{EncodedTo}
use Rattle.elements.proofs.encode.Given as goal

abbrev pub invariant-loop-n : goal.invariant-loop-n
invariant-loop-n l = EncodedTo l.first l.initial.file l.file l.at l.n-index
