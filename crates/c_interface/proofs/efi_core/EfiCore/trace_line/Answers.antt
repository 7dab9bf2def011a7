use Rattle.c_interface.specs.CallFields.{call_of}
use Rattle.c_interface.proofs.TracedCalls.{made_returns, refused_returns}
use Rattle.c_interface.proofs.efi_core.EfiCore.trace_line.Goals as goal

pub returns-in-Ok : goal.returns-in-Ok
returns-in-Ok g c =
    made_returns (call_of c.args.fields.now) c.in-Ok.call c.line_of.result c.args.buffer.now c.args.size.now c.returned.result c.returned.new.buffer c.returned.new.size c.in-Ok.ensures c.line_of.ensures c.returned.ensures

pub returns-in-Err : goal.returns-in-Err
returns-in-Err g c =
    refused_returns (call_of c.args.fields.now) c.in-Err.status c.args.buffer.now c.args.size.now c.number.result c.in-Err.ensures c.number.ensures
