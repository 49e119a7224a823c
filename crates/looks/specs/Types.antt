-- The types of the crates below, under one name.
pub use Rattle.rules.specs.declared.Tree.{Tree}
pub use Rattle.rules.specs.declared.ChildEntry.{ChildEntry}
pub use Rattle.rules.specs.declared.TreeEntry.{TreeEntry}
pub use Rattle.rules.specs.declared.CpuEntry.{CpuEntry}
pub use Rattle.rules.specs.declared.Fault.{Fault}
pub use Rattle.rules.specs.declared.Opening.{Opening}
pub use Rattle.places.specs.declared.Shape.{Shape}
