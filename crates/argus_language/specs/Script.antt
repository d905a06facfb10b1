-- A script, and the lines that spell it.
use Rattle.std.specs.Prelude.{◌≡◌, ℕ, List, [], ◌∷◌, map, flat_map}
use Rattle.argus_texts.specs.ShapeSpelling.{shape_spelling}
use Rattle.argus_language.specs.{Command.{Command, command_of}, Lines.line_text, Numbered.sentences_of}
use Rattle.argus_language.specs.{Objects.{AllMakeable, PlainObjects}, PlainStep.{PlainSteps, plain_steps}}
use Rattle.argus_language.specs.{Spelled.lines_of_parts, Placement.AllMayStand, declared.script.Script.Script}
use Rattle.argus_language.specs.Command as command
use Rattle.argus_language.specs.declared.place.Place.TheVariants as place

-- a script: the objects that it declares, and its steps in order
pub record PlainScript : Type 0 where
  pub objects : PlainObjects
  pub parts : PlainSteps

-- what a script says
abbrev pub plain_script : Script → PlainScript
plain_script s = record {
  objects = record { names = s.names.items; shapes = s.shapes.items };
  parts = plain_steps s.steps.items;
}

-- the name that a line declares
abbrev pub name_declared : Command → List (List ℕ)
name_declared (command.declare name shape) = name ∷ []
name_declared c = []

-- the text of the shape that a line declares
abbrev pub shape_declared : Command → List (List ℕ)
shape_declared (command.declare name shape) = shape ∷ []
shape_declared c = []

-- lines declare these objects, in this order: their names, and the written forms of their shapes,
-- which can be made
pub record Declares (lines : List (List ℕ)) (objects : PlainObjects) : Type 0 where
  pub names : flat_map (λ line. name_declared (command_of (line_text line))) lines ≡ objects.names
  pub shapes : flat_map (λ line. shape_declared (command_of (line_text line))) lines
      ≡ map shape_spelling objects.shapes
  pub makeable : AllMakeable objects

-- Lines spell a script: they declare its objects, what they say of these is its lines, and each of
-- its steps is allowed where it is.
pub record Spells (lines : List (List ℕ)) (script : PlainScript) : Type 0 where
  pub declares : Declares lines script.objects
  pub sentences : flat_map (sentences_of script.objects) lines ≡ lines_of_parts script.parts
  pub stand : AllMayStand place.Top script.parts
