use Rattle.std.proofs.Common.{◌≡◌, drop, ap, sym, ◌∙◌, arith}
use Rattle.std.proofs.lemmas.List.{take_rest}
use Rattle.byteorder.specs.Endian.{little_number}
use Rattle.byteorder.specs.Numbers.{little_from-lt}
use Rattle.map_keys.proofs.Spelling.{AreBytes, bytes-drop, fields_in, fields_spell}
use Rattle.map_keys.proofs.records.read_record.Goals.{then-start-ne0-via-then-start-ne0, then-start-ne0-via-else-start-ne0+then-pages-eq0, then-start-ne0-via-else-start-ne0+else-pages-eq0+then-pages-first}
use Rattle.map_keys.proofs.records.read_record.Goals as goal

pub returns-then-start-ne0 : goal.returns-then-start-ne0
returns-then-start-ne0 c = λ d is e.
    let xs = c.args.bytes.now in
    let f = fields_in xs d is e in
    let start : c.read_u64-start.result ≡ little_number 8 (drop 8 xs) = c.read_u64-start.ensures ∙ ap (little_number 8) (take_rest xs 8) in
    let pages : c.read_u64-pages.result ≡ little_number 8 (drop 24 xs) = c.read_u64-pages.ensures ∙ ap (little_number 8) (take_rest xs 24) in
    elim c.then-start-ne0.branch [
      | then-start-ne0-via-then-start-ne0 w ↦ omega (arith, w.if-start-ne0.true, start, f.start)
      | then-start-ne0-via-else-start-ne0+then-pages-eq0 w ↦ omega (arith, w.if-pages-eq0.true, pages, f.pages, is.some)
      | then-start-ne0-via-else-start-ne0+else-pages-eq0+then-pages-first w ↦ omega (arith, w.if-pages-first.true, start, f.start, pages, f.pages, is.within)
    ]

pub returns : goal.returns
returns c =
    let xs = c.args.bytes.now in
    let bytes : AreBytes xs = λ i. (c.type_inv.bytes i).fits in
    let number : c.new.result ≡ little_number 4 xs = c.new.ensures ∙ c.read_u32.ensures in
    let padding : c.read_u32-padding.result ≡ little_number 4 (drop 4 xs) = c.read_u32-padding.ensures ∙ ap (little_number 4) (take_rest xs 4) in
    let start : c.read_u64-start.result ≡ little_number 8 (drop 8 xs) = c.read_u64-start.ensures ∙ ap (little_number 8) (take_rest xs 8) in
    let virtual_start : c.read_u64-virtual_start.result ≡ little_number 8 (drop 16 xs) = c.read_u64-virtual_start.ensures ∙ ap (little_number 8) (take_rest xs 16) in
    let pages : c.read_u64-pages.result ≡ little_number 8 (drop 24 xs) = c.read_u64-pages.ensures ∙ ap (little_number 8) (take_rest xs 24) in
    let attributes : c.read_u64.result ≡ little_number 8 (drop 32 xs) = c.read_u64.ensures ∙ ap (little_number 8) (take_rest xs 32) in
    let more : c.read_u64-rest.result ≡ little_number 8 (drop 40 xs) = c.read_u64-rest.ensures ∙ ap (little_number 8) (take_rest xs 40) in (
      record {
        mtype = omega (arith, number, little_from-lt 0 4 xs bytes);
        some = omega (arith, c.if-pages-eq0.false);
        within = omega (arith, c.if-pages-first.false, c.if-pages-eq0.false);
        attributes = omega (arith, attributes, little_from-lt 0 8 (drop 32 xs) (bytes-drop 32 xs bytes));
      },
      fields_spell xs _ c.requires bytes (record {
        mtype = sym number;
        padding = sym padding ∙ omega (arith, c.if-padding-ne0.false);
        start = sym start ∙ omega (arith, c.if-start-ne0.false);
        virtual_start = sym virtual_start ∙ omega (arith, c.if-virtual_start-ne0.false);
        pages = sym pages;
        attributes = sym attributes;
        more = sym more ∙ omega (arith, c.if-rest-ne0.false);
      }),
    )
