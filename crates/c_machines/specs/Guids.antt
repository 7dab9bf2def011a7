-- GUIDs and interfaces as C has them.
use Rattle.std.specs.Prelude.{ℕ, List}
use Rattle.uuid.specs.Parts.{swap_fields}
use Rattle.c_machines.specs.declared.guids.Guid.{Guid}
use Rattle.c_machines.specs.declared.guids.Interface.{Interface}

-- a GUID as the standard's sixteen bytes
abbrev pub standard_guid : List ℕ → Guid
standard_guid guid = record { bytes = swap_fields guid }

-- the GUID that the standard's sixteen bytes are
abbrev pub guid_in : Guid → List ℕ
guid_in guid = swap_fields guid.bytes

-- the GUID and the value of an interface
abbrev pub interface_in : Interface → List ℕ × ℕ
interface_in interface = (guid_in interface.guid, interface.value)
