-- A board, as contracts see it.
use Rattle.std.specs.{Coded.{Coded, code_by, coded_ℕ, coded×}, Prelude.{List, refl, ℕ}}
use Rattle.argus_board.specs.Effects.{effects_coded}
use Rattle.argus_contents.specs.Effect.{Effect}

-- the effects that lookers can see, those that are to be published yet, the newest last, and how
-- many places for lookers weren't given out yet
pub record BoardView : Type 0 where
  pub published : List Effect
  pub pending : List Effect
  pub places_left : ℕ

-- the lists and the number are stored
abbrev pub board_view_coded : Coded BoardView
board_view_coded =
    code_by (List Effect × (List Effect × ℕ)) (coded× effects_coded (coded× effects_coded coded_ℕ))
    (λ s. (s.published, (s.pending, s.places_left)))
    (λ p. record { published = p.0; pending = p.1.0; places_left = p.1.1 }) (λ _. refl)
