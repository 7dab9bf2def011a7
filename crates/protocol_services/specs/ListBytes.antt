-- Lists as bytes in a buffer, their numbers little endian.
use Rattle.std.specs.Prelude.{ℕ, List, ◌++◌, flat_map}
use Rattle.byteorder.specs.Endian.{little_bytes}
use Rattle.open_agents.specs.declared.items.OpenItem.{OpenItem}

-- the bytes of handles, 8 each
abbrev pub handle_bytes : List ℕ → List ℕ
handle_bytes handles = flat_map (little_bytes 8) handles

-- the entry of an open item, of 24 bytes: agent, controller, attributes, open count
-- (EFI_OPEN_PROTOCOL_INFORMATION_ENTRY)
abbrev pub entry_of : OpenItem → List ℕ
entry_of i =
    little_bytes 8 i.agent ++ little_bytes 8 i.controller ++ little_bytes 4 i.attributes
    ++ little_bytes 4 i.count

-- the entries of open items, one after the other
abbrev pub item_bytes : List OpenItem → List ℕ
item_bytes items = flat_map entry_of items
