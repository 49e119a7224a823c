-- The types of the crates below, under one name.
pub use Rattle.rules.specs.declared.Tree.{Tree}
pub use Rattle.rules.specs.declared.Order.{Order}
pub use Rattle.rules.specs.declared.Giving.{Giving}
pub use Rattle.rules.specs.declared.Record.{Record}
pub use Rattle.rules.specs.declared.CpuEntry.{CpuEntry}
pub use Rattle.rules.specs.declared.TreeEntry.{TreeEntry}
pub use Rattle.rules.specs.declared.Answer.{Answer}
pub use Rattle.places.specs.declared.Shape.{Shape}
