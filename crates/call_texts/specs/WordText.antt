-- How a parameter is written.
use Rattle.std.specs.Prelude.{ℕ, List}
use Rattle.std.specs.Fmt.{decimal}
use Rattle.text_lines.specs.Printed.{hexadecimal}
use Rattle.call_texts.specs.CallText.{flag_word, guid_word}
use Rattle.call_texts.specs.declared.words.Word.{Word}
use Rattle.call_texts.specs.declared.words.Word.TheVariants as word

-- how a parameter is written
abbrev pub word_text : Word → List ℕ
word_text (word.Number n) = decimal n
word_text (word.Address n) = hexadecimal n
word_text (word.Guid guid) = guid_word guid
word_text (word.Flag flag) = flag_word flag
