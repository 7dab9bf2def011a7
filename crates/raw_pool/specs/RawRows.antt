-- Words on a row of bytes behind a raw pointer.
use Rattle.std.specs.Prelude.{ℕ, List, ◌++◌, length, take, drop}
use Rattle.std.specs.List.{length_refill}
use Rattle.raw_pool.specs.Bytes.{Bytes}
use Rattle.raw_pool.specs.Ownership.{AreBlock}
use Rattle.raw_pool.specs.declared.raw_bytes.Lease.{Lease}
use Rattle.raw_pool.specs.declared.raw_bytes.RawBytes.{RawBytes}

-- its bytes
abbrev pub bytes_of : RawBytes → Bytes
bytes_of r = record { set = r.set; room = r.room }

-- the two rows are the block that a lease is the right to free
abbrev pub AreLeased : {A : Type 0} → RawBytes → RawBytes → Lease A → Type 0
AreLeased first second lease =
    AreBlock first.ptr first.room second.ptr second.room lease.ptr lease.size

-- it with others as the bytes that are set. Where they are not as many, they are cut or filled up
abbrev pub with_set : RawBytes → List ℕ → RawBytes
with_set r xs =
    record {
      ptr = r.ptr;
      len = r.len;
      room = r.room;
      set = take r.len (xs ++ drop (length xs) r.set);
      ok = (length_refill r.len r.set xs r.ok.0, r.ok.1, r.ok.2);
    }
