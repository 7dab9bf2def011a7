-- What it is to read a part of a certificate block.
use Rattle.std.specs.Prelude.{◌≡◌, MatchResult, IfSome, IsTrue, ℕ, Bool, List, Option, Some, option_map, Result, Ok, Err}
use Rattle.std.specs.declared.vec.Vec.{Vec}
use Rattle.certificate_blocks.specs.declared.faults.BlockFault.{BlockFault}
use Rattle.certificate_blocks.specs.declared.faults.BlockFault.TheVariants as fault
use Rattle.text_lines.specs.Lines.{lines_of}
use Rattle.page_ranges.specs.declared.ranges.Descriptor.{Descriptor}
use Rattle.placement_certificate.specs.declared.certificates.Request.{Request}
use Rattle.placement_certificate.specs.Certificates.{CertificateValue}
use Rattle.certificate_blocks.specs.declared.reader.Block.{Block}
use Rattle.certificate_blocks.specs.declared.reader.BlockReader.{BlockReader}
use Rattle.certificate_blocks.specs.Blocks.{LinesLeft, Reading, all_lines, block, block_said}

-- the lines that are left where these bytes are, if they are known, the first of which has this
-- number
abbrev pub lines_left : Option (List ℕ) → ℕ → Option LinesLeft
lines_left bytes number =
    option_map (λ known. record { number = number; lines = lines_of known }) bytes

-- Why nothing was read: a source that can fail failed, memory ran out, or this line is the first
-- that is not as stated.
abbrev pub IsReadFault : {A : Type 0} → Bool → Result (A × LinesLeft) ℕ → BlockFault → Type 0
IsReadFault can_fail given fault.Read = IsTrue can_fail
IsReadFault can_fail given fault.OutOfMemory = Unit {0}
IsReadFault can_fail given fault.Write = ⊥
IsReadFault can_fail given (fault.Line number) = given ≡ Err number

-- What was returned, seen by view, is what the reading gives on known lines, and the lines that it
-- leaves are left.
abbrev pub Reads : {X A : Type 0} → Bool → (X → A) → Reading A → Option LinesLeft
    → Result X BlockFault → Option LinesLeft → Type 0
Reads can_fail view reading old result new =
    IfSome old
    (λ left. MatchResult result (λ x. (rest : LinesLeft) × (new ≡ Some rest)
    × (reading left ≡ Ok (view x, rest))) (IsReadFault can_fail (reading left)))

-- the lines that are left of a reader's source, if its bytes are known
abbrev pub left_in_reader : {S A : Type 0} → (S → Option (List ℕ)) → BlockReader S A
    → Option LinesLeft
left_in_reader left reader = lines_left (left reader.source) reader.number

-- A reader returned, seen by view, what the reading gives on the lines that were left of it.
abbrev pub ReadsFrom : {S Z X A : Type 0} → Bool → (S → Option (List ℕ)) → Reading A → (X → A)
    → BlockReader S Z → Result X BlockFault → BlockReader S Z → Type 0
ReadsFrom can_fail left reading view old result new =
    Reads can_fail view reading (left_in_reader left old) result (left_in_reader left new)

-- A reader returned the value that the reading gives on the lines that were left of it.
abbrev pub ReadsValue : {S Z A : Type 0} → Bool → (S → Option (List ℕ)) → Reading A
    → BlockReader S Z → Result A BlockFault → BlockReader S Z → Type 0
ReadsValue can_fail left reading old result new =
    ReadsFrom can_fail left reading (λ x. x) old result new

-- A reader returned the values that the reading gives on the lines that were left of it.
abbrev pub ReadsAll : {S Z A : Type 0} → Bool → (S → Option (List ℕ)) → Reading (List A)
    → BlockReader S Z → Result (Vec A Z) BlockFault → BlockReader S Z → Type 0
ReadsAll can_fail left reading old result new =
    ReadsFrom can_fail left reading (λ v. v.items) old result new

-- what a block says
abbrev pub said_by : {A : Type 0} → Block A → List Descriptor × Request × CertificateValue
said_by b = (b.map.items, b.request, b.certificate)

-- The block that these bytes are was read, or there is a reason why not.
abbrev pub ReadsBlock : {A : Type 0} → Bool → List ℕ → Result (Block A) BlockFault → Type 0
ReadsBlock can_fail bytes result =
    MatchResult result (λ b. block_said bytes ≡ Ok (said_by b))
    (IsReadFault can_fail (block (all_lines bytes)))
