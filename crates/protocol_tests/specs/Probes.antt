-- What the probing drivers of the tests look at.
use Rattle.std.specs.Prelude.{ℕ, ◌==◌, ◌&&◌, Bool, true, false, not, cond, List, [], ◌∷◌}
use Rattle.std.specs.List.{list_any}
use Rattle.guid_handles.specs.HandleTables.{same_guid}
use Rattle.driver_connect.specs.declared.view.ProtocolView.{ProtocolView}

-- a GUID is there, and held or not
abbrev pub has : List ProtocolView → List ℕ → Bool → Bool
has protocols guid held = list_any (λ v. same_guid v.guid guid && cond held v.held (not v.held)) protocols

-- two protocols are shown alike
abbrev pub is_same : ProtocolView → ProtocolView → Bool
is_same v w = same_guid v.guid w.guid && ((v.value == w.value) && cond w.held v.held (not v.held))

-- the same protocols are shown, in the same order
abbrev pub are_same : List ProtocolView → List ProtocolView → Bool
are_same [] [] = true
are_same [] (w ∷ ws) = false
are_same (v ∷ vs) [] = false
are_same (v ∷ vs) (w ∷ ws) = is_same v w && are_same vs ws
