-- What contracts see of a `Bounded`.
use Rattle.std.specs.Prelude.{ℕ, ◌+◌, Bool, cond, List, ◌++◌, length, nat_le, refl}
use Rattle.std.specs.Coded.{Coded, code_by, coded×, coded_list}

-- the items in order, and what lies in the places after them, of which no clause says anything
pub record Bounded (T : Type 0) : Type 0 where
  pub items : List T
  pub spare : List T

-- it is stored as the pair of its fields
abbrev pub bounded_code : {T : Type 0} → Coded T → Coded (Bounded T)
bounded_code {T} code =
    code_by (List T × List T) (coded× (coded_list code) (coded_list code)) (λ b. (b.items, b.spare)) (λ p. record { items = p.0; spare = p.1 }) (λ _. refl)

module _ {T : Type 0} where
  -- whether a run fits after the items, where there are so many places
  abbrev pub has_room : ℕ → List T → List T → Bool
  has_room places items run = nat_le (length items + length run) places

  -- the items with a run after them, if it fits, and else as they were
  abbrev pub extended : ℕ → List T → List T → List T
  extended places items run = cond (has_room places items run) (items ++ run) items
