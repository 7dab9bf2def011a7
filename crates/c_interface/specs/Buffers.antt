-- What is in a caller's buffer after values are written to its front.
use Rattle.std.specs.Prelude.{List, ◌++◌, length, take, drop}

-- the values from the front of a buffer on, as many as it has room for; the rest of the buffer is
-- as it was
abbrev pub front_filled : {T : Type 0} → List T → List T → List T
front_filled values buffer = take (length buffer) values ++ drop (length values) buffer
