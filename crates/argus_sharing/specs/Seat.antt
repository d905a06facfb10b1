-- A seat, as contracts see it.
use Rattle.std.specs.{Coded.{Coded, code_by, coded_ℕ}, Prelude.{refl, ℕ}}

-- how many calls of the seat were journalled
pub record SeatView : Type 0 where
  pub made : ℕ

-- it is stored as that number
abbrev pub seat_view_coded : Coded SeatView
seat_view_coded = code_by ℕ coded_ℕ (λ s. s.made) (λ n. record { made = n }) (λ _. refl)
