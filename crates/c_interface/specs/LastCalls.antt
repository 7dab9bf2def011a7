-- What a core in C keeps of its last call.
use Rattle.std.specs.Prelude.{ℕ, Bool, true, false, List, [], Option, Some, None}
use Rattle.boot_replies.specs.declared.replies.Reply.{Reply}
use Rattle.c_interface.specs.declared.last_call.LastCall.{LastCall}
use Rattle.c_interface.specs.declared.last_call.LastCall.TheVariants as last
use Rattle.c_interface.specs.Replies.{events_in}

-- what is left of a call to be asked for: its reply, where replies are kept, and the events
-- that it signals
pub record Left (A : Type 0) : Type 0 where
  pub reply : Option (Reply A)
  pub events : List ℕ

-- neither a reply nor events
abbrev pub nothing_left : {A : Type 0} → Left A
nothing_left = record { reply = None; events = [] }

-- a reply, where replies are kept
abbrev pub kept_reply : {A : Type 0} → Bool → Reply A → Option (Reply A)
kept_reply true answer = Some answer
kept_reply false answer = None

-- what is left of a call with this reply, where replies are kept or not
abbrev pub left_of : {A : Type 0} → Bool → Reply A → Left A
left_of keeps answer = record { reply = kept_reply keeps answer; events = events_in answer }

-- what is kept
abbrev pub left_in : {A : Type 0} → LastCall A → Left A
left_in last.Nothing = nothing_left
left_in (last.Events events) = record { reply = None; events = events.items }
left_in (last.Reply answer) = left_of true answer
