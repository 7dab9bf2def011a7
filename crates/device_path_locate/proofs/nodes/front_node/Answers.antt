use Rattle.std.proofs.Common.{◌≡◌, ap, ◌∙◌, drop, inl, inr}
use Rattle.std.proofs.lemmas.List.{take_rest}
use Rattle.byteorder.specs.Endian.{little_number}
use Rattle.device_path_locate.proofs.NodeLists.{front_node, no_node}
use Rattle.device_path_locate.proofs.Walks.{other_length, returned_node, short_header}
use Rattle.device_path_locate.proofs.nodes.front_node.Goals.{then-length-lt-MIN_LENGTH-via-then-length-lt-MIN_LENGTH, then-length-lt-MIN_LENGTH-via-else-length-lt-MIN_LENGTH+then-length-bytes}
use Rattle.device_path_locate.proofs.nodes.front_node.Goals as goal

pub returns-then-bytes-lt-HEADER_SIZE-clause-node : goal.returns-then-bytes-lt-HEADER_SIZE-clause-node
returns-then-bytes-lt-HEADER_SIZE-clause-node c = short_header c.args.bytes.now c.if-bytes-lt-HEADER_SIZE.true

pub returns-then-length-lt-MIN_LENGTH-clause-path : goal.returns-then-length-lt-MIN_LENGTH-clause-path
returns-then-length-lt-MIN_LENGTH-clause-path c =
    let xs = c.args.bytes.now in
    let n : c.read_u16-length.result ≡ little_number 2 (drop 2 xs) = c.read_u16-length.ensures ∙ ap (little_number 2) (take_rest xs 2) in
    elim c.then-length-lt-MIN_LENGTH.branch [
      | then-length-lt-MIN_LENGTH-via-then-length-lt-MIN_LENGTH w ↦ no_node xs _ c.if-bytes-lt-HEADER_SIZE.false n (inl w.if-length-lt-MIN_LENGTH.true)
      | then-length-lt-MIN_LENGTH-via-else-length-lt-MIN_LENGTH+then-length-bytes w ↦ no_node xs _ c.if-bytes-lt-HEADER_SIZE.false n (inr w.if-length-bytes.true)
    ]

pub returns-then-length-lt-MIN_LENGTH-clause-node : goal.returns-then-length-lt-MIN_LENGTH-clause-node
returns-then-length-lt-MIN_LENGTH-clause-node c =
    let xs = c.args.bytes.now in
    let n : c.read_u16-length.result ≡ little_number 2 (drop 2 xs) = c.read_u16-length.ensures ∙ ap (little_number 2) (take_rest xs 2) in
    elim c.then-length-lt-MIN_LENGTH.branch [
      | then-length-lt-MIN_LENGTH-via-then-length-lt-MIN_LENGTH w ↦ other_length xs _ n (inl w.if-length-lt-MIN_LENGTH.true)
      | then-length-lt-MIN_LENGTH-via-else-length-lt-MIN_LENGTH+then-length-bytes w ↦ other_length xs _ n (inr w.if-length-bytes.true)
    ]

pub returns-clause-path : goal.returns-clause-path
returns-clause-path c =
    let xs = c.args.bytes.now in
    let n : c.read_u16-length.result ≡ little_number 2 (drop 2 xs) = c.read_u16-length.ensures ∙ ap (little_number 2) (take_rest xs 2) in
    front_node xs _ c.if-bytes-lt-HEADER_SIZE.false n c.if-length-lt-MIN_LENGTH.false c.if-length-bytes.false

pub returns-clause-node : goal.returns-clause-node
returns-clause-node c =
    let xs = c.args.bytes.now in
    let n : c.read_u16-length.result ≡ little_number 2 (drop 2 xs) = c.read_u16-length.ensures ∙ ap (little_number 2) (take_rest xs 2) in
    returned_node xs _ c.if-bytes-lt-HEADER_SIZE.false n c.if-length-lt-MIN_LENGTH.false c.if-length-bytes.false
