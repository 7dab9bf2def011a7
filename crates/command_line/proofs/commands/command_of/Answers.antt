use Rattle.std.proofs.Common.{◌≡◌, ◌∙◌, ap, sym, map, List, []}
use Rattle.clap.specs.Words.{App, Text, is_simple, is_simple_and_free, subcommand_of, subcommand_rows_of}
use Rattle.clap.specs.Faults.{fault_of as clap_fault}
use Rattle.command_line.specs.Words.{IsCommandOf, IsFoundCommand, IsNone, program_words}
use Rattle.command_line.proofs.Refusals.{command_found, nothing_found, refusal_gives, version_refused, version_taken}
use Rattle.command_line.proofs.commands.command_of.Goals as goal

pub returns-in-Ok : goal.returns-in-Ok
returns-in-Ok c =
    let words : List Text = map (λ word. word.now) c.args.words.now in
    let found : subcommand_rows_of c.in-Ok.matches ≡ subcommand_of program_words words =
    (c.in-Ok.ensures.matches (ap is_simple c.in_ok-program.ensures)).1 ∙ ap (λ (a : App). subcommand_of a words) c.in_ok-program.ensures in
    let taken = c.in-Ok.ensures.kinds (ap is_simple_and_free c.in_ok-program.ensures) in
    let fault_free : clap_fault program_words words ≡ [] = ap (λ (a : App). clap_fault a words) (sym c.in_ok-program.ensures) ∙ taken in
    record {
      ok = command_found words (subcommand_rows_of c.in-Ok.matches) c.command_in.result found fault_free c.command_in.ensures.ok;
      err = refusal_gives (IsNone (IsFoundCommand (subcommand_rows_of c.in-Ok.matches))) (IsNone (IsCommandOf words)) (nothing_found words (subcommand_rows_of c.in-Ok.matches) found fault_free) c.command_in.result c.command_in.ensures.err;
    }

pub returns-in-Err : goal.returns-in-Err
returns-in-Err c =
    let words : List Text = map (λ word. word.now) c.args.words.now in
    let has = c.in-Err.ensures.kinds (ap is_simple_and_free c.in_ok-program.ensures) in
    let same = ap (λ (a : App). clap_fault a words) c.in_ok-program.ensures in
    record {
      ok = version_taken words _ c.in-Err.error c.command_for.result same has c.command_for.ensures.ok;
      err = version_refused words _ c.in-Err.error c.command_for.result same has c.command_for.ensures.err;
    }
