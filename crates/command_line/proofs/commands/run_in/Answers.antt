use Rattle.std.proofs.Common.{refl, sym, codes, ◌∙◌, inl, inr}
use Rattle.clap.specs.Words.{found_of, rows_of}
use Rattle.clap.proofs.WalkLemmas.{first_value-rows}
use Rattle.command_line.specs.Words.{IsNamed, IsNone}
use Rattle.command_line.proofs.Refusals.{flag_given, has_reason, no_run, no_text}
use Rattle.command_line.proofs.commands.run_in.Goals.{in_default-via-in-Some+in_default, in_default-via-in_default}
use Rattle.command_line.proofs.commands.run_in.Goals as goal

pub returns-in-Some-Some-clause-ok : goal.returns-in-Some-Some-clause-ok
returns-in-Some-Some-clause-ok c =
    let found = found_of c.args.options.now in (
      refl,
      sym (c.in-Some-Some.ensures ∙ first_value-rows found (codes "machine")),
      sym (c.in-Some-Some.ensures' ∙ first_value-rows found (codes "trace")),
      flag_given _ found (codes "certify") c.get_one.result c.unwrap_or-certify.result c.unwrap_or-certify.ensures c.get_one.ensures.none c.get_one.ensures.value,
    )

pub returns-in_default-clause-err : goal.returns-in_default-clause-err
returns-in_default-clause-err c =
    let found = found_of c.args.options.now in
    has_reason (IsNone (IsNamed (codes "run") (rows_of found))) c.usage.result (no_run (rows_of found) (elim c.in_default.branch [
      | in_default-via-in-Some+in_default w ↦ inr (no_text found (codes "trace") c.get_str-2.result c.get_str-2.ensures w.in_default.is-1)
      | in_default-via-in_default w ↦ inl (no_text found (codes "machine") c.get_str.result c.get_str.ensures w.in_default.is-0)
    ]))
