-- The span of a path, as its nodes are read one after the other.
use Rattle.std.proofs.Common.{◌≡◌, ℕ, ◌+◌, ◌⊎◌, inl, inr, true, false, List, ◌∷◌, length, drop, Option, Some, None, option_map, refl, ap, ◌∙◌, arith}
use Rattle.std.specs.List.{concat}
use Rattle.std.specs.Option.{unwrap_or, option_or}
use Rattle.std.proofs.lemmas.List.{drop-drop, length-append}
use Rattle.device_path_locate.specs.declared.spans.PathSpan.{PathSpan}
use Rattle.device_path_locate.specs.Reading.{IsFrontNode}
use Rattle.device_path_locate.specs.DevicePaths.{Node, end_of_instance, end_of_path, first_instance, is_inner, nodes_from, path_in, same_bytes, size_of, span_of}

-- the span of a path of which a number of bytes are read, and the first instance if it ended in them, given the nodes that are left
abbrev pub span_after : ℕ → Option ℕ → List Node → PathSpan
span_after read first ns = record { first_instance = unwrap_or first (read + size_of (first_instance ns)); whole = read + size_of ns }

abbrev returned_span : ℕ → ℕ → Option PathSpan
returned_span a b = Some (record { first_instance = a; whole = b })

same_span : (a b c d : ℕ) → a ≡ b → c ≡ d → returned_span a c ≡ returned_span b d
same_span a b c d e f = rw (e, f) refl

pub nothing_read : (path : Option (List Node)) → option_map span_of path ≡ option_map (span_after 0 None) path
nothing_read None = refl
nothing_read (Some ns) = same_span (size_of (first_instance ns)) (0 + size_of (first_instance ns)) (size_of ns) (0 + size_of ns) (omega arith) (omega arith)

-- the end of the path was read
pub all_read : (read : ℕ) (first : Option ℕ) (n : Node) (behind : Option (List Node)) → same_bytes n end_of_path ≡ true →
    option_map (span_after read first) (nodes_from n behind) ≡ Some (record { first_instance = unwrap_or first read; whole = read })
all_read read first n behind e =
    let z : read + 0 ≡ read = omega arith in
    rw (e, z) refl

more_bytes : (read : ℕ) (n : Node) (ns : List Node) → read + size_of (n ∷ ns) ≡ read + length n + size_of ns
more_bytes read n ns = omega (arith, length-append n (concat ns))

-- a node was read that is no end
pub node_read : (read : ℕ) (first : Option ℕ) (n : Node) (behind : Option (List Node)) → same_bytes n end_of_path ≡ false → is_inner n ≡ true → same_bytes n end_of_instance ≡ false →
    option_map (span_after read first) (nodes_from n behind) ≡ option_map (span_after (read + length n) first) behind
node_read read first n None e i f = rw (e, i) refl
node_read read None n (Some ns) e i f = rw (e, i, f, more_bytes read n ns, more_bytes read n (first_instance ns)) refl
node_read read (Some k) n (Some ns) e i f = rw (e, i, more_bytes read n ns) refl

-- the end of an instance was read
pub end_read : (read : ℕ) (first : Option ℕ) (n : Node) (behind : Option (List Node)) → same_bytes n end_of_path ≡ false → is_inner n ≡ true → same_bytes n end_of_instance ≡ true →
    option_map (span_after read first) (nodes_from n behind) ≡ option_map (span_after (read + length n) (option_or first (Some read))) behind
end_read read first n None e i f = rw (e, i) refl
end_read read None n (Some ns) e i f = let z : read + 0 ≡ read = omega arith in rw (e, i, f, z, more_bytes read n ns) refl
end_read read (Some k) n (Some ns) e i f = rw (e, i, more_bytes read n ns) refl

-- a node was read at a place in some bytes, and the path goes on behind it
pub goes_on : (bytes : List ℕ) (read : ℕ) (first next : Option ℕ) (n : Node) → IsFrontNode (drop read bytes) (Some n) → same_bytes n end_of_path ≡ false → is_inner n ≡ true →
    ((same_bytes n end_of_instance ≡ false) × (next ≡ first)) ⊎ ((same_bytes n end_of_instance ≡ true) × (next ≡ option_or first (Some read))) →
    option_map (span_after read first) (path_in (drop read bytes)) ≡ option_map (span_after (read + length n) next) (path_in (drop (read + length n) bytes))
goes_on bytes read first next n h e i (inl (f, z)) =
    ap (option_map (span_after read first)) h.2 ∙ node_read read first n (path_in (drop (length n) (drop read bytes))) e i f ∙ rw (z, drop-drop (length n) read bytes) refl
goes_on bytes read first next n h e i (inr (f, z)) =
    ap (option_map (span_after read first)) h.2 ∙ end_read read first n (path_in (drop (length n) (drop read bytes))) e i f ∙ rw (z, drop-drop (length n) read bytes) refl
