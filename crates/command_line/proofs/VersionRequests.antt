-- Where `clap` finds that words ask for the version, it finds nothing else wrong with them.
use Rattle.std.proofs.Common.{◌≡◌, ◌&&◌, ◌||◌, ◌==◌, ◌+◌, ℕ, zero, suc, Bool, true, false, not, List, [], ◌∷◌, length, drop, min, Option, Some, None, is_some, if◌then◌else◌, find, codes, encode_utf8, slice_get, nat_lt, sym, ap, inl, inr}
use Rattle.std.specs.Option.{option_map_or}
use Rattle.std.specs.Str.{bytes_eq, chars}
use Rattle.clap.specs.Facts.{parser_of_value, unwrap_or_range}
use Rattle.clap.specs.Matches.{count_text}
use Rattle.clap.specs.Lexer.{long_of, short_of}
use Rattle.clap.specs.Kinds.{IsAmong, Kinds, check_kinds, or_else, range_kinds, request_kinds, value_kinds, values_kinds}
use Rattle.clap.specs.Values.{refused_kind}
use Rattle.clap.specs.ValueTests.{accepts}
use Rattle.clap.specs.Walk.{Held, Names, Row, Rule, Step, Text, Waiting, Walk, action_of, arg_by_id, arg_by_index, arg_by_long, arg_by_short, attached_value, count_of, finished, has_row, is_empty, is_pending, most_values, nothing_held, next, reacted, settled, subcommand, subcommand_met, takes_several, takes_values, trailing, value, values_or_missing, walk, walk_from, walked, with_default, word_met, answers_to}
use Rattle.clap.specs.Simple.{App, Shape, argument_words, built, entered, label_of, names_of}
use Rattle.clap.specs.Faults.{values_fault, count_fault, repeat_fault, set_fault, action_fault, use_fault, settle_fault, react_fault, option_fault, long_fault, short_fault, bundle_step_fault, flags_fault, flag_word_fault, other_fault, word_fault, positional_fault, stray_fault, step_fault, turn_fault, walk_fault, default_fault, defaults_fault, check_fault, level_fault, entered_fault, built_fault, fault_of}
use Rattle.clap.specs.declared.builder.action.ArgAction.{ArgAction}
use Rattle.clap.specs.declared.builder.action.ArgAction.TheVariants as action
use Rattle.clap.specs.declared.builder.value_parser.ValueParser.{ValueParser}
use Rattle.clap.specs.declared.error.kind.ErrorKind.{ErrorKind}
use Rattle.clap.specs.declared.error.kind.ErrorKind.TheVariants as kind

-- a request for the version is alone in the list
abbrev IsAlone : Kinds → Type 0
IsAlone kinds = IsAmong kind.DisplayVersion kinds → kinds ≡ kind.DisplayVersion ∷ []

none : IsAlone []
none h = absurd h

one : (k : ErrorKind) → IsAlone (k ∷ [])
one k (inl e) = ap (λ x. x ∷ []) (sym e)
one k (inr h) = absurd h

unknown_or_bad : IsAlone (kind.UnknownArgument ∷ kind.InvalidSubcommand ∷ [])
unknown_or_bad (inl e) = cc
unknown_or_bad (inr (inl e)) = cc
unknown_or_bad (inr (inr h)) = absurd h

help_or_bad : IsAlone (kind.DisplayHelp ∷ kind.InvalidSubcommand ∷ [])
help_or_bad (inl e) = cc
help_or_bad (inr (inl e)) = cc
help_or_bad (inr (inr h)) = absurd h

first : (a b : Kinds) → IsAlone a → IsAlone b → IsAlone (or_else a b)
first [] b h g = g
first (k ∷ ks) b h g = h

either : (b : Bool) (x y : Kinds) → IsAlone x → IsAlone y → IsAlone (if b then x else y)
either true x y h g = h
either false x y h g = g

found : {A : Type 0} (o : Option A) (f : A → Kinds) → ((x : A) → IsAlone (f x)) → IsAlone (option_map_or f o [])
found None f h = none
found (Some x) f h = h x

-- ---- one use of an argument

of_value : (ignore_case : Bool) (parser : ValueParser) (text : List ℕ) → IsAlone (value_kinds ignore_case parser text)
of_value ignore_case parser text = either (accepts ignore_case parser text) [] (refused_kind parser ∷ []) none (one (refused_kind parser))

of_values : (ignore_case : Bool) (parser : ValueParser) (values : List (List ℕ)) → IsAlone (values_kinds ignore_case parser values)
of_values ignore_case parser [] = none
of_values ignore_case parser (v ∷ vs) = first (value_kinds ignore_case parser v) (values_kinds ignore_case parser vs) (of_value ignore_case parser v) (of_values ignore_case parser vs)

of_range : (least most n : ℕ) → IsAlone (range_kinds least most n)
of_range least most n = either (nat_lt 0 least && n == 0) _ _ (one kind.InvalidValue)
    (either (least == most) _ _ (either (least == n) _ _ none (one kind.WrongNumberOfValues))
    (either (nat_lt n least) _ _ (one kind.TooFewValues) (either (nat_lt most n) _ _ (one kind.TooManyValues) none)))

of_request : (x : ArgAction) → IsAlone (request_kinds x)
of_request action.Help = one kind.DisplayHelp
of_request action.HelpShort = one kind.DisplayHelp
of_request action.HelpLong = one kind.DisplayHelp
of_request action.Version = one kind.DisplayVersion
of_request action.Set = none
of_request action.Append = none
of_request action.SetTrue = none
of_request action.SetFalse = none
of_request action.Count = none

of_check : (help command argument : Bool) → IsAlone (check_kinds help command argument)
of_check help command argument = either help _ _ (one kind.DisplayHelpOnMissingArgumentOrSubcommand)
    (either command _ _ (one kind.MissingSubcommand) (either argument _ _ (one kind.MissingRequiredArgument) none))

of_repeat : (again : Bool) (id : Text) (rows : List Row) → IsAlone (repeat_fault again id rows)
of_repeat again id rows = either (has_row id rows && not again) _ _ (one kind.ArgumentConflict) none

of_count : (a : Rule) (values : List Text) (rows : List Row) → IsAlone (count_fault a values rows)
of_count a [] rows = of_value a.ignore_case (parser_of_value a.parser) (count_text (min (count_of a.id rows + 1) 255))
of_count a (v ∷ vs) rows = of_values a.ignore_case (parser_of_value a.parser) (v ∷ vs)

of_set : (again : Bool) (a : Rule) (values : List Text) (rows : List Row) → IsAlone (set_fault again a values rows)
of_set again a values rows = first (repeat_fault again a.id rows) (values_fault a values) (of_repeat again a.id rows) (of_values a.ignore_case (parser_of_value a.parser) values)

of_action : (x : ArgAction) (again : Bool) (a : Rule) (values : List Text) (rows : List Row) → IsAlone (action_fault x again a values rows)
of_action action.Set again a values rows = of_set again a values rows
of_action action.SetTrue again a values rows = of_set again a values rows
of_action action.SetFalse again a values rows = of_set again a values rows
of_action action.Append again a values rows = of_values a.ignore_case (parser_of_value a.parser) values
of_action action.Count again a values rows = of_count a values rows
of_action action.Help again a values rows = of_request action.Help
of_action action.HelpShort again a values rows = of_request action.HelpShort
of_action action.HelpLong again a values rows = of_request action.HelpLong
of_action action.Version again a values rows = of_request action.Version

of_use : (again : Bool) (a : Rule) (values : List Text) (rows : List Row) → IsAlone (use_fault again a values rows)
of_use again a values rows = first _ (action_fault (action_of a) again a (values_or_missing a values) rows)
    (of_range (unwrap_or_range a.range).start_inclusive (most_values a) (length values))
    (of_action (action_of a) again a (values_or_missing a values) rows)

-- ---- the words of one level

module _ (c : List Rule) (again : Bool) where
  of_settled : (h : Held) → IsAlone (settle_fault c again h)
  of_settled h = found h.pending _ (λ p. found (arg_by_id c p.0) _ (λ a. of_use again a p.1 h.rows))

  of_reaction : (a : Rule) (values : List Text) (h : Held) → IsAlone (react_fault c again a values h)
  of_reaction a values h = first (settle_fault c again h) (use_fault again a values (settled c h).rows) (of_settled h) (of_use again a values (settled c h).rows)

  of_option : (a : Rule) (v : Option Text) (h : Held) → IsAlone (option_fault c again a v h)
  of_option a (Some v) h = of_reaction a (v ∷ []) h
  of_option a None h = of_settled h

  of_long : (a : Option Rule) (v : Option Text) (h : Held) → IsAlone (long_fault c again a v h)
  of_long None v h = one kind.UnknownArgument
  of_long (Some a) v h = either (takes_values a) _ _ (of_option a v h) (either (is_some v) _ _ (one kind.TooManyValues) (of_reaction a [] h))

  of_short : (a : Option Rule) (rest : Text) (h : Held) (rests : Held → Kinds) → ((h : Held) → IsAlone (rests h)) → IsAlone (short_fault c again a rest h rests)
  of_short None rest h rests are = one kind.UnknownArgument
  of_short (Some a) rest h rests are = either (takes_values a) _ _ (of_option a (attached_value rest) h)
      (first (react_fault c again a [] h) (rests (reacted c a [] h)) (of_reaction a [] h) (are (reacted c a [] h)))

  of_bundle_step : (x : Option ℕ) (flags : Text) (skip : ℕ) (h : Held) (rests : Text → ℕ → Held → Kinds) → ((t : Text) (n : ℕ) (h : Held) → IsAlone (rests t n h)) → IsAlone (bundle_step_fault c again x flags skip h rests)
  of_bundle_step None flags skip h rests are = none
  of_bundle_step (Some x) flags zero h rests are =
      let rest : Text = drop (length (encode_utf8 x)) flags in of_short (arg_by_short c x) rest h (rests rest 0) (are rest 0)
  of_bundle_step (Some x) flags (suc skip) h rests are = are (drop (length (encode_utf8 x)) flags) skip h

  of_flags : (k : ℕ) (flags : Text) (skip : ℕ) (h : Held) → IsAlone (flags_fault c again k flags skip h)
  unfolding flags_fault
  of_flags zero flags skip h = none
  of_flags (suc k) flags skip h = of_bundle_step (slice_get (chars flags) 0) flags skip h (flags_fault c again k) (of_flags k)

  of_flag_word : (long : Option (Text × Option Text)) (word : Text) (h : Held) → IsAlone (flag_word_fault c again long word h)
  of_flag_word (Some p) word h = of_long (arg_by_long c p.0) p.1 h
  of_flag_word None word h = found (short_of word) _ (λ flags. of_flags (length flags) flags h.skip (record h { skip = 0 }))

  of_positional : (a : Rule) (h : Held) → IsAlone (positional_fault c again a h)
  of_positional a h = either (is_pending a h.pending && takes_several a) _ _ none (of_settled h)

module _ (s : Shape) where
  of_other : (name : Option Text) (word : Text) (h : Held) → IsAlone (other_fault s name word h)
  of_other (Some name) word h = either (bytes_eq name (codes "help") && not s.disable_help_subcommand) _ _ help_or_bad none
  of_other None word h = either (bytes_eq word (45 ∷ 45 ∷ [])) _ _ none (of_flag_word s.rules s.args_override_self (long_of word) word h)

  of_word : (names : Names) (is_trailing : Bool) (waiting : Waiting) (word : Text) (h : Held) → IsAlone (word_fault s names is_trailing waiting word h)
  of_word names is_trailing waiting word h = either is_trailing _ _ none (of_other (subcommand_met names waiting word) word h)

  of_stray : IsAlone (stray_fault s)
  of_stray = either s.is_leaf _ _ (one kind.UnknownArgument) unknown_or_bad

  of_position : (o : Option Rule) (h : Held) → IsAlone (option_map_or (λ a. positional_fault s.rules s.args_override_self a h) o (stray_fault s))
  of_position None h = of_stray
  of_position (Some a) h = of_positional s.rules s.args_override_self a h

  of_step : (position : ℕ) (h : Held) (step : Step) → IsAlone (step_fault s position h step)
  of_step position h value = of_position (arg_by_index s.rules position) h
  of_step position h (next waiting) = none
  of_step position h (trailing p) = none
  of_step position h (subcommand name) = none

  of_turn : (names : Names) (w : Walk) (word : Text) → IsAlone (turn_fault s names w word)
  of_turn names w word =
      let met = word_met s.rules names w.is_trailing w.waiting w.position word w.held in
      either (is_some w.stopped) _ _ none
      (first (word_fault s names w.is_trailing w.waiting word w.held) (step_fault s w.position met.0 met.1)
      (of_word names w.is_trailing w.waiting word w.held) (of_step w.position met.0 met.1))

  of_walk : (names : Names) (w : Walk) (words : List Text) → IsAlone (walk_fault s names w words)
  unfolding walk_fault
  of_walk names w [] = none
  of_walk names w (word ∷ rest) = first (turn_fault s names w word) (walk_fault s names (walked s.rules names w word) rest)
      (of_turn names w word) (of_walk names (walked s.rules names w word) rest)

-- ---- after the words

of_default : (rows : List Row) (a : Rule) → IsAlone (default_fault rows a)
of_default rows a = either (has_row a.id rows || is_empty a.defaults) _ _ none
    (first (request_kinds (action_of a)) (values_fault a a.defaults) (of_request (action_of a)) (of_values a.ignore_case (parser_of_value a.parser) a.defaults))

of_defaults : (rows : List Row) (rules : List Rule) → IsAlone (defaults_fault rows rules)
unfolding defaults_fault
of_defaults rows [] = none
of_defaults rows (a ∷ rest) = first (default_fault rows a) (defaults_fault (with_default rows a) rest) (of_default rows a) (of_defaults (with_default rows a) rest)

of_level : (s : Shape) (names : Names) (h : Held) (words : List Text) (has_subcommand : Bool) (below : Kinds) → IsAlone below → IsAlone (level_fault s names h words has_subcommand below)
of_level s names h words has_subcommand below is =
    let end : Held = (walk s.rules names h words).held in
    first (walk_fault s names (walk_from h) words) _ (of_walk s names (walk_from h) words)
    (first below _ is
    (first (settle_fault s.rules s.args_override_self end) _ (of_settled s.rules s.args_override_self end)
    (first (defaults_fault (settled s.rules end).rows s.rules) (check_fault s (finished s.rules end) has_subcommand)
    (of_defaults (settled s.rules end).rows s.rules) (of_check _ _ _))))

of_entered : (a : App) (stop : Option (Text × List Text)) → IsAlone (entered_fault a stop)
of_entered a stop = found stop _ (λ p. found (find (λ s. answers_to p.0 (label_of s)) a.subs) _ (λ s. of_level s [] nothing_held p.1 false [] none))

of_built : (a : App) (h : Held) (words : List Text) → IsAlone (built_fault a h words)
of_built a h words =
    let stop = (walk a.top.rules (names_of a) h words).stopped in
    of_level a.top (names_of a) h words (is_some (entered a stop)) (entered_fault a stop) (of_entered a stop)

-- a command whose words may ask for the version has no other fault
pub asks_alone : (a : App) (words : List Text) → IsAmong kind.DisplayVersion (fault_of a words) → fault_of a words ≡ kind.DisplayVersion ∷ []
asks_alone a words = of_built (built a) nothing_held (argument_words a words)
