use Rattle.std.proofs.Common.{ℕ, List, length, drop, sym, subst, ◌∙◌, arith}
use Rattle.boot_core.specs.MapCalls.{AnswersMap}
use Rattle.boot_core.proofs.MapReplies.{answers_map, written_back}
use Rattle.boot_core.proofs.map_buffers.map_in_buffer.Goals as goal

pub returns-in-Ok : goal.returns-in-Ok
returns-in-Ok g c =
    let b = c.args.book.now in
    let buffer = c.get_memory_map-reply.new.buffer in
    let reply = c.get_memory_map-reply.result in
    let room = c.as_mut_slice.ensures.len ∙ c.in-Ok.ensures.room in
    let whole = written_back c.in-Ok.bytes.len buffer (drop (length buffer) c.in-Ok.bytes.items) (omega (arith, c.as_mut_slice.ensures.len, c.get_memory_map-reply.auto.buffer)) in
    subst (λ (bytes : List ℕ). AnswersMap b c.args.size reply bytes) (sym whole) (answers_map b c.args.size c.as_mut_slice.result.now buffer reply room c.get_memory_map-reply.ensures.reply c.get_memory_map-reply.ensures.buffer)
