-- The verbs of a trace.
use Rattle.std.specs.Prelude.{ℕ, List, [], ◌∷◌, codes, find, Option}
use Rattle.std.specs.Str.{bytes_eq}
use Rattle.trace_verbs.specs.declared.verbs.Verb.{Verb}
use Rattle.trace_verbs.specs.declared.verbs.Verb.TheVariants as verb

-- how a verb is written
abbrev pub verb_name : Verb → List ℕ
verb_name verb.Pages = codes "pages"
verb_name verb.FreePages = codes "free-pages"
verb_name verb.Map = codes "map"
verb_name verb.Pool = codes "pool"
verb_name verb.FreePool = codes "free-pool"
verb_name verb.Read = codes "read"
verb_name verb.Write = codes "write"
verb_name verb.Install = codes "install"
verb_name verb.InstallMany = codes "install-many"
verb_name verb.Uninstall = codes "uninstall"
verb_name verb.Reinstall = codes "reinstall"
verb_name verb.Open = codes "open"
verb_name verb.Close = codes "close"
verb_name verb.Information = codes "information"
verb_name verb.HandleProtocol = codes "handle-protocol"
verb_name verb.Notify = codes "notify"
verb_name verb.Locate = codes "locate"
verb_name verb.LocateBuffer = codes "locate-buffer"
verb_name verb.LocateProtocol = codes "locate-protocol"
verb_name verb.Protocols = codes "protocols"
verb_name verb.Connect = codes "connect"
verb_name verb.Disconnect = codes "disconnect"
verb_name verb.Path = codes "path"
verb_name verb.Exit = codes "exit"
verb_name verb.List = codes "list"

-- all verbs
abbrev pub verbs : List Verb
verbs = verb.Pages ∷ verb.FreePages ∷ verb.Map ∷ verb.Pool ∷ verb.FreePool ∷ verb.Read ∷ verb.Write
    ∷ verb.Install ∷ verb.InstallMany ∷ verb.Uninstall ∷ verb.Reinstall ∷ verb.Open ∷ verb.Close
    ∷ verb.Information ∷ verb.HandleProtocol ∷ verb.Notify ∷ verb.Locate ∷ verb.LocateBuffer
    ∷ verb.LocateProtocol ∷ verb.Protocols ∷ verb.Connect ∷ verb.Disconnect ∷ verb.Path ∷ verb.Exit
    ∷ verb.List ∷ []

-- the verb that is written so
abbrev pub verb_named : List ℕ → Option Verb
verb_named name = find (λ v. bytes_eq (verb_name v) name) verbs
