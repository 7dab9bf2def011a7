-- The handles that drivers made on a controller.
use Rattle.std.specs.Prelude.{◌≡◌, ℕ, ◌==◌, Bool, false, List, map, Option, Some, None}
use Rattle.std.specs.List.{filter, AllZip}
use Rattle.guid_handles.specs.declared.records.LiveHandle.{LiveHandle}
use Rattle.guid_handles.specs.declared.records.Pair.{Pair}
use Rattle.guid_handles.specs.HandleTables.{HandleTable}
use Rattle.guid_handles.specs.Indexes.{AreBeside, IsPlaceOfRow, Row, lives, rows_at}
use Rattle.guid_handles.specs.NumberLists.{ChangesList, list_of}

-- a maker, if there is one, is of a controller
abbrev pub is_of_controller : ℕ → Option Pair → Bool
is_of_controller controller None = false
is_of_controller controller (Some m) = m.controller == controller

-- a driver made a handle on a controller
abbrev pub is_made_on : ℕ → LiveHandle → Bool
is_made_on controller h = is_of_controller controller h.maker

abbrev pub numbers_made_on : ℕ → List LiveHandle → List ℕ
numbers_made_on controller hs = map (λ h. h.number) (filter (is_made_on controller) hs)

-- the handles that drivers made on a controller, ascending
abbrev pub made_on : HandleTable → ℕ → List ℕ
made_on t controller = numbers_made_on controller t.handles

-- the list of each controller has the handles that drivers made on it
abbrev pub AreMadeOn : List LiveHandle → List (ℕ × List ℕ) → Type 0
AreMadeOn hs lists = (c : ℕ) → list_of lists c ≡ numbers_made_on c hs

-- the list of the controller of a maker changes, if there is a maker
abbrev pub ChangesMade : Option Pair → (List ℕ → List ℕ) → List (ℕ × List ℕ) → List (ℕ × List ℕ)
    → Type 0
ChangesMade None f old new = new ≡ old
ChangesMade (Some m) f old new = ChangesList m.controller f old new

-- Ascending numbers, the places of their rows, and the handles that were made by the controllers of
-- their makers.
pub record AreRows (ns ps : List ℕ) (slots : List (Option Row)) (lists : List (ℕ × List ℕ))
    : Type 0 where
  pub beside : AreBeside ns ps
  pub rows : AllZip (IsPlaceOfRow slots) ns ps
  pub made : AreMadeOn (lives (rows_at slots ps)) lists
