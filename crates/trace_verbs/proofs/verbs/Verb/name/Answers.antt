use Rattle.std.proofs.Common.{ap, sym}
use Rattle.trace_verbs.specs.Verbs.{verb_name}
use Rattle.trace_verbs.proofs.verbs.Verb.name.Goals as goal

pub returns-in-Pages : goal.returns-in-Pages
returns-in-Pages c = sym (ap verb_name c.in-Pages.is)

pub returns-in-FreePages : goal.returns-in-FreePages
returns-in-FreePages c = sym (ap verb_name c.in-FreePages.is)

pub returns-in-Map : goal.returns-in-Map
returns-in-Map c = sym (ap verb_name c.in-Map.is)

pub returns-in-Pool : goal.returns-in-Pool
returns-in-Pool c = sym (ap verb_name c.in-Pool.is)

pub returns-in-FreePool : goal.returns-in-FreePool
returns-in-FreePool c = sym (ap verb_name c.in-FreePool.is)

pub returns-in-Read : goal.returns-in-Read
returns-in-Read c = sym (ap verb_name c.in-Read.is)

pub returns-in-Write : goal.returns-in-Write
returns-in-Write c = sym (ap verb_name c.in-Write.is)

pub returns-in-Install : goal.returns-in-Install
returns-in-Install c = sym (ap verb_name c.in-Install.is)

pub returns-in-InstallMany : goal.returns-in-InstallMany
returns-in-InstallMany c = sym (ap verb_name c.in-InstallMany.is)

pub returns-in-Uninstall : goal.returns-in-Uninstall
returns-in-Uninstall c = sym (ap verb_name c.in-Uninstall.is)

pub returns-in-Reinstall : goal.returns-in-Reinstall
returns-in-Reinstall c = sym (ap verb_name c.in-Reinstall.is)

pub returns-in-Open : goal.returns-in-Open
returns-in-Open c = sym (ap verb_name c.in-Open.is)

pub returns-in-Close : goal.returns-in-Close
returns-in-Close c = sym (ap verb_name c.in-Close.is)

pub returns-in-Information : goal.returns-in-Information
returns-in-Information c = sym (ap verb_name c.in-Information.is)

pub returns-in-HandleProtocol : goal.returns-in-HandleProtocol
returns-in-HandleProtocol c = sym (ap verb_name c.in-HandleProtocol.is)

pub returns-in-Notify : goal.returns-in-Notify
returns-in-Notify c = sym (ap verb_name c.in-Notify.is)

pub returns-in-Locate : goal.returns-in-Locate
returns-in-Locate c = sym (ap verb_name c.in-Locate.is)

pub returns-in-LocateBuffer : goal.returns-in-LocateBuffer
returns-in-LocateBuffer c = sym (ap verb_name c.in-LocateBuffer.is)

pub returns-in-LocateProtocol : goal.returns-in-LocateProtocol
returns-in-LocateProtocol c = sym (ap verb_name c.in-LocateProtocol.is)

pub returns-in-Protocols : goal.returns-in-Protocols
returns-in-Protocols c = sym (ap verb_name c.in-Protocols.is)

pub returns-in-Connect : goal.returns-in-Connect
returns-in-Connect c = sym (ap verb_name c.in-Connect.is)

pub returns-in-Disconnect : goal.returns-in-Disconnect
returns-in-Disconnect c = sym (ap verb_name c.in-Disconnect.is)

pub returns-in-Path : goal.returns-in-Path
returns-in-Path c = sym (ap verb_name c.in-Path.is)

pub returns-in-Exit : goal.returns-in-Exit
returns-in-Exit c = sym (ap verb_name c.in-Exit.is)

pub returns-in-List : goal.returns-in-List
returns-in-List c = sym (ap verb_name c.in-List.is)
