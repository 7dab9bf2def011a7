-- One search and no second tactic after it: a body that is wrong is then refused sooner.
use Rattle.std.proofs.Common.{rules}
use Rattle.reply_texts.proofs.replies.print_reply.Goals as goal

pub returns-in-AllocatePages-Ok : goal.returns-in-AllocatePages-Ok
returns-in-AllocatePages-Ok g c = search rules

pub returns-in-AllocatePages-Err : goal.returns-in-AllocatePages-Err
returns-in-AllocatePages-Err g c = search rules

pub returns-in-FreePages : goal.returns-in-FreePages
returns-in-FreePages g c = search rules

pub returns-in-GetMemoryMap : goal.returns-in-GetMemoryMap
returns-in-GetMemoryMap g c = search rules

pub returns-in-AllocatePool-Ok : goal.returns-in-AllocatePool-Ok
returns-in-AllocatePool-Ok g c = search rules

pub returns-in-AllocatePool-Err : goal.returns-in-AllocatePool-Err
returns-in-AllocatePool-Err g c = search rules

pub returns-in-FreePool : goal.returns-in-FreePool
returns-in-FreePool g c = search rules

pub returns-in-PoolRead : goal.returns-in-PoolRead
returns-in-PoolRead g c = search rules

pub returns-in-PoolWrite : goal.returns-in-PoolWrite
returns-in-PoolWrite g c = search rules

pub returns-in-ExitBootServices : goal.returns-in-ExitBootServices
returns-in-ExitBootServices g c = search rules
