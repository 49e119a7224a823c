-- The types that src/ declares, and those of the crates below, under one name.
pub use Rattle.rules.specs.declared.Tree.{Tree}
pub use Rattle.rules.specs.declared.CpuEntry.{CpuEntry}
pub use Rattle.rules.specs.declared.Fault.{Fault}
pub use Rattle.entries.specs.declared.Size.{Size}
pub use Rattle.cpu_entries.specs.declared.Claimed.{Claimed}
pub use Rattle.cpu_entries.specs.declared.Again.{Again}
pub use Rattle.cpu_entries.specs.declared.Stolen.{Stolen}
pub use Rattle.cpu_entries.specs.declared.CpuFields.{CpuFields}
pub use Rattle.cpu_entries.specs.declared.Held.{Held}
