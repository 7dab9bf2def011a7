-- Device paths of a caller's memory that are installed.
use Rattle.std.proofs.Common.{◌≡◌, ℕ, true, false, List, length, Option, Some, None, option_map, is_none, refl, sym, ap, subst, ◌∙◌, inl}
use Rattle.device_path_locate.specs.DevicePaths.{Node, path_in, span_of}
use Rattle.device_path_locate.specs.declared.spans.PathSpan.{PathSpan}
use Rattle.boot_calls.specs.declared.calls.Call.TheVariants as call
use Rattle.boot_replies.specs.declared.replies.Reply.{Reply}
use Rattle.c_interface.specs.EfiCores.{EfiCoreValue, with_reply}
use Rattle.c_interface.specs.Replies.{number_in}
use Rattle.c_interface.specs.Served.{Makes}
use Rattle.c_interface.specs.Paths.{InstallsAt, InstallsPath, InstallsPathIn, path_type}
use Rattle.c_interface.proofs.LeftReplies.{made_left}

-- whether bytes begin with a path, by whether one was read
pub none_read : (span : Option PathSpan) (path : Option (List Node)) → span ≡ option_map span_of path → is_none span ≡ true → path ≡ None
none_read span None e n = refl
none_read span (Some ns) e n = let z : false ≡ true = ap is_none (sym e) ∙ n in absurd cc

pub one_read : (span : Option PathSpan) (path : Option (List Node)) → span ≡ option_map span_of path → is_none span ≡ false → (ns : List Node) × (path ≡ Some ns)
one_read span None e n = let z : true ≡ false = ap is_none (sym e) ∙ n in absurd cc
one_read span (Some ns) e n = (ns, refl)

-- an installation from its block on, or from there being none
pub installed_at : {A : Type 0} (old made first new : EfiCoreValue A) (path : List ℕ) (nodes : List Node) (size : ℕ) (placed : Reply A) (number : Option ℕ) (before after : ℕ × ℕ) (status : ℕ) →
    path_in path ≡ Some nodes → size ≡ length path → Makes old (call.AllocatePool path_type size) placed made → first ≡ with_reply made placed → number ≡ number_in placed →
    InstallsAt first path number placed before status after new → InstallsPath old path before status after new
installed_at {A = A} old made first new path nodes size placed number before after status p long m n e at =
    let serves = made_left old made first (call.AllocatePool path_type (length path)) placed (subst (λ (k : ℕ). Makes old (call.AllocatePool path_type k) placed made) long m) n in
    let there : InstallsAt first path (number_in placed) placed before status after new = subst (λ (k : Option ℕ). InstallsAt first path k placed before status after new) e at in
    subst (λ (found : Option (List Node)). InstallsPathIn found old path before status after new) (sym p) (inl (placed, first, serves, there))
