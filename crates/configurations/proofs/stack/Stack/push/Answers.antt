-- `push`: the new step is on top, and the steps below are as they were.
use native.Mathlib.Omega.{arith}
use mathlib.Core.Path.{refl}
use Rattle.configurations.proofs.Stacks.{pushed, written}
use Rattle.configurations.proofs.stack.Stack.push.Goals as goal

pub returns : goal.returns
returns c = pushed c.args.self.now _ c.args.name c.args.words.now c.requires (written c.args.self.now.opened c.args.self.now.depth c.args.name c.args.words.now _ (omega (arith, c.args.self.now.bounded.0))) refl
