-- The types of the crates below, under one name.
pub use Rattle.rules.specs.declared.Frame.{Frame}
pub use Rattle.rules.specs.declared.Huge.{Huge}
pub use Rattle.rules.specs.declared.Tree.{Tree}
pub use Rattle.rules.specs.declared.Run.{Run}
pub use Rattle.rules.specs.declared.Block.{Block}
pub use Rattle.rules.specs.declared.Giving.{Giving}
pub use Rattle.rules.specs.declared.Record.{Record}
pub use Rattle.rules.specs.declared.CpuEntry.{CpuEntry}
pub use Rattle.rules.specs.declared.Answer.{Answer}
pub use Rattle.rules.specs.declared.Fault.{Fault}
pub use Rattle.places.specs.declared.Shape.{Shape}
pub use Rattle.calls.specs.declared.Way.{Way}
pub use Rattle.put_runs.specs.declared.At.{At}
