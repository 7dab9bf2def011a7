use Rattle.std.proofs.Common.{◌≡◌, ℕ, List, [], ◌∷◌, ◌++◌, length, refl, sym, ap, subst, ◌∙◌, append_assoc, length-append, arith}
use Rattle.std.specs.List.{AllByRecursion}
use Rattle.std.specs.Slice.Iter.{chunks_exact_rest}
use Rattle.std.proofs.lemmas.List.{append-nil}
use Rattle.std.proofs.lemmas.Slice.{pushed}
use Rattle.page_ranges.specs.declared.ranges.Descriptor.{Descriptor}
use Rattle.page_ranges.proofs.Members.{all_append}
use Rattle.map_keys.specs.Records.{records, IsRecordEntry}
use Rattle.map_keys.proofs.RecordLists.{records-more, length_records, record_behind}
use Rattle.map_keys.proofs.records.read_descriptors.Goals as goal

none_left : (xs : List ℕ) → length xs ≡ 0 → [] ≡ xs
none_left [] e = refl
none_left (x ∷ xs) e = absurd (omega arith)

pub returns-then-bytes-ne0 : goal.returns-then-bytes-ne0
returns-then-bytes-ne0 g c = λ ds all e. omega (arith, c.if-bytes-ne0.true, length_records ds, ap length e)

pub returns-in_default : goal.returns-in_default
returns-in_default g c = λ ds all e.
    let s = c.in-Some.ensures.steps in
    let i = c.loop-record.invariant in
    let front = records c.loop-record.entries.items in
    let chunk = c.in-Some.record.now in
    let rest = chunks_exact_rest c.next.new.self in
    let whole = e ∙ sym i.read ∙ ap (λ (ys : List ℕ). front ++ ys) s.1.0 ∙ sym (append_assoc front chunk rest) in
    let found = record_behind c.loop-record.entries.items ds chunk rest (s.1.1 ∙ i.size) all whole in
    c.in_default.ensures found.0 found.1 found.2

pub loop-record-preserved : goal.loop-record-preserved
loop-record-preserved g c =
    let s = c.in-Some.ensures.steps in
    let i = c.loop-record.invariant in
    let entries = c.loop-record.entries.items in
    let front = records entries in
    let d = c.in-Some-read_record.entry in
    let is = c.in-Some-read_record.ensures in
    let chunk = c.in-Some.record.now in
    let rest = chunks_exact_rest c.next.new.self in
    let items : c.push.new.self.items ≡ entries ++ d ∷ [] = pushed (d ∷ []) refl c.in_ok-push.was c.push.ensures.items in
    record {
      size = s.0 ∙ i.size;
      each = subst (AllByRecursion IsRecordEntry) (sym items) (all_append IsRecordEntry entries (d ∷ []) i.each (is.0, tt));
      read =
          ap (λ (ds : List Descriptor). records ds ++ rest) items
          ∙ ap (λ (ys : List ℕ). ys ++ rest) (records-more entries d ∙ ap (λ (ys : List ℕ). front ++ ys) is.1)
          ∙ append_assoc front chunk rest
          ∙ ap (λ (ys : List ℕ). front ++ ys) (sym s.1.0)
          ∙ i.read;
    }

pub returns : goal.returns
returns g c =
    let s = c.in-None.ensures.steps in
    let i = c.loop-record.invariant in
    let entries = c.loop-record.entries.items in
    let rest = chunks_exact_rest c.loop-record.record-iterator in
    let none : length rest ≡ 0 = omega (arith, s.1.0, i.size, c.if-bytes-ne0.false, length_records entries, length-append (records entries) rest, ap length i.read) in
    (i.each, sym (append-nil (records entries)) ∙ ap (λ (ys : List ℕ). records entries ++ ys) (none_left rest none) ∙ i.read)
