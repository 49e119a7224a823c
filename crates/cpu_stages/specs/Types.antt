-- The types of the crates below, under one name.
pub use Rattle.rules.specs.declared.Frame.{Frame}
pub use Rattle.rules.specs.declared.Tree.{Tree}
pub use Rattle.rules.specs.declared.Order.{Order}
pub use Rattle.rules.specs.declared.Block.{Block}
pub use Rattle.rules.specs.declared.CpuEntry.{CpuEntry}
pub use Rattle.rules.specs.declared.Fault.{Fault}
pub use Rattle.rules.specs.declared.Pass.{Pass}
pub use Rattle.rules.specs.declared.Found.{Found}
pub use Rattle.rules.specs.declared.Place.{Place}
pub use Rattle.rules.specs.declared.Taking.{Taking}
pub use Rattle.rules.specs.declared.Giving.{Giving}
pub use Rattle.rules.specs.declared.Answer.{Answer}
pub use Rattle.cpu_entries.specs.declared.Claimed.{Claimed}
pub use Rattle.cpu_entries.specs.declared.Again.{Again}
pub use Rattle.cpu_entries.specs.declared.Stolen.{Stolen}
pub use Rattle.places.specs.declared.Shape.{Shape}
