use Rattle.std.proofs.Common.{◌≡◌, Bool, true, false, List, sym, ◌∙◌, ap}
use Rattle.driver_connect.specs.declared.agents.Agent.{Agent}
use Rattle.driver_connect.specs.declared.driver_turns.DriverTurns.{DriverTurns}
use Rattle.driver_connect.specs.DriverTurns.{has_turn, pass_of, turns_after, after_outcome}
use Rattle.driver_connect.proofs.TurnSteps.{started_turn, left_turn}
use Rattle.driver_connect.proofs.driver_turns.DriverTurns.record_outcome.Goals as goal
use Rattle.driver_connect.proofs.driver_turns.DriverTurns.record_outcome.Goals.{then-not-was_started, else-not-was_started}

pub returns-clause-pass : goal.returns-clause-pass
returns-clause-pass c =
    let turn : has_turn c.args.self.now c.args.drivers.now ≡ true = sym c.has_turn.ensures ∙ c.if-not-has_turn.false in
    let before = pass_of c.args.self.now c.args.drivers.now in
    let none : Agent = record { handle = 0; driver = 0; version = 0 } in
    ap (λ (t : DriverTurns). pass_of t c.if-not-was_started.drivers) c.after.ensures ∙ elim c.if-not-was_started.branch [
      | then-not-was_started w ↦
          ap (λ (b : Bool). pass_of (turns_after b c.args.self.now) c.if-not-was_started.drivers) w.if-not-was_started.true
          ∙ ap (λ (l : List Agent). pass_of (turns_after false c.args.self.now) l) w.drivers-is
          ∙ left_turn c.args.self.now c.args.drivers.now none turn
          ∙ ap (λ (b : Bool). after_outcome b before) (sym w.if-not-was_started.true)
      | else-not-was_started w ↦
          ap (λ (b : Bool). pass_of (turns_after b c.args.self.now) c.if-not-was_started.drivers) w.if-not-was_started.false
          ∙ ap (λ (l : List Agent). pass_of (turns_after true c.args.self.now) l) w.drivers-is
          ∙ started_turn c.args.self.now c.args.drivers.now none turn
          ∙ ap (λ (b : Bool). after_outcome b before) (sym w.if-not-was_started.false)
    ]
