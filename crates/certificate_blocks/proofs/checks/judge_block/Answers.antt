-- One search and no second tactic after it: a body that is wrong is then refused sooner.
use Rattle.std.proofs.Common.{rules}
use Rattle.certificate_blocks.proofs.checks.judge_block.Goals as goal

pub returns-in-Err-clause-judged : goal.returns-in-Err-clause-judged
returns-in-Err-clause-judged g c = search rules

pub returns-in-Err-clause-written : goal.returns-in-Err-clause-written
returns-in-Err-clause-written g c = search rules

pub returns-in-Ok-write_verdict-clause-judged : goal.returns-in-Ok-write_verdict-clause-judged
returns-in-Ok-write_verdict-clause-judged g c = search rules

pub returns-in-Ok-write_verdict-clause-written : goal.returns-in-Ok-write_verdict-clause-written
returns-in-Ok-write_verdict-clause-written g c = search rules

pub returns-clause-judged : goal.returns-clause-judged
returns-clause-judged g c = search rules

pub returns-clause-written : goal.returns-clause-written
returns-clause-written g c = search rules
