use Rattle.std.proofs.Common.{◌≡◌, ◌∙◌, ℕ, List, refl, subst, inl, inr, take, string_bytes}
use Rattle.std.specs.Io.KnownBytes.{Appends}
use Rattle.program_runs.specs.Serving.{version_line}
use Rattle.program_runs.proofs.serve.serve_version.Goals as goal

pub returns-in_default-write_text : goal.returns-in_default-write_text
returns-in_default-write_text g c =
    let same : string_bytes c.in-Ok.line ≡ version_line = c.in-Ok.ensures.ok in
    let front = c.in_default-write_text.ensures.err in
    inr (c.serve_fault-in_default-write_text.ensures, (front.0, subst (λ (t : List ℕ). Appends (g.W.Write.contents c.args.out.now) (g.W.Write.contents c.write_text.new.writer) (take front.0 t)) (c.as_bytes.ensures.value ∙ same) front.1))

pub returns : goal.returns
returns g c =
    let same : string_bytes c.in-Ok.line ≡ version_line = c.in-Ok.ensures.ok in
    inl (refl, subst (λ (t : List ℕ). Appends (g.W.Write.contents c.args.out.now) (g.W.Write.contents c.write_text.new.writer) t) (c.as_bytes.ensures.value ∙ same) c.in-Ok-write_text.ensures.ok)
