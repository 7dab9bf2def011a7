use Rattle.boot_core.proofs.MapReplies.{returned_size}
use Rattle.boot_core.proofs.map_buffers.map_size.Goals as goal

pub returns : goal.returns
returns g c = returned_size _ _ _ c.get_memory_map.result c.get_memory_map.ensures.reply
