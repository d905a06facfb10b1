pub use Rattle.argus_contents.specs.Answer
pub use Rattle.argus_contents.specs.Change
pub use Rattle.argus_contents.specs.Content
pub use Rattle.argus_contents.specs.Effect
pub use Rattle.argus_contents.specs.Fitting
pub use Rattle.argus_contents.specs.Name
pub use Rattle.argus_contents.specs.Place
pub use Rattle.argus_contents.specs.Query
pub use Rattle.argus_contents.specs.Shape
pub use Rattle.argus_contents.specs.ShapeView
pub use Rattle.argus_contents.specs.SmallAnswer
pub use Rattle.argus_contents.specs.Ty
pub use Rattle.argus_contents.specs.Typing
pub use Rattle.argus_contents.specs.Value
pub use Rattle.argus_texts.specs.ContentSpelling
pub use Rattle.argus_texts.specs.Fault
pub use Rattle.argus_texts.specs.Laws
pub use Rattle.argus_texts.specs.ShapeSpelling
pub use Rattle.argus_texts.specs.Spelling
pub use Rattle.argus_contents.specs.declared as contents_declared
pub use Rattle.argus_memory.specs.declared as memory_declared
pub use Rattle.argus_texts.specs.declared as texts_declared
