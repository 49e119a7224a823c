-- The types of the crates below, under one name.
pub use Rattle.rules.specs.declared.Tree.{Tree}
pub use Rattle.rules.specs.declared.Block.{Block}
pub use Rattle.rules.specs.declared.Fault.{Fault}
pub use Rattle.rules.specs.declared.Answer.{Answer}
