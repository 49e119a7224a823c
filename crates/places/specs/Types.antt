-- The types of the rules and of the entries, under one name.
pub use Rattle.rules.specs.declared.Frame.{Frame}
pub use Rattle.rules.specs.declared.Huge.{Huge}
pub use Rattle.rules.specs.declared.Tree.{Tree}
pub use Rattle.rules.specs.declared.Order.{Order}
pub use Rattle.rules.specs.declared.Block.{Block}
pub use Rattle.rules.specs.declared.Pass.{Pass}
pub use Rattle.rules.specs.declared.Found.{Found}
pub use Rattle.rules.specs.declared.Place.{Place}
pub use Rattle.rules.specs.declared.Taking.{Taking}
pub use Rattle.rules.specs.declared.Giving.{Giving}
pub use Rattle.rules.specs.declared.Creating.{Creating}
pub use Rattle.rules.specs.declared.Opening.{Opening}
pub use Rattle.rules.specs.declared.Answer.{Answer}
pub use Rattle.entries.specs.declared.Size.{Size}
pub use Rattle.places.specs.declared.Shape.{Shape}
pub use Rattle.places.specs.declared.BlockAt.{BlockAt}
