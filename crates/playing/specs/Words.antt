-- What is printed of a difference, and of the counts at the end. Assumes nothing.
use Rattle.std.specs.Prelude.{ℕ, ◌-◌, false, List, ◌++◌, length, replicate, codes}
use Rattle.std.specs.Fmt.{decimal, digits}
use Rattle.text.specs.Text.{spaced_pairs}
use Rattle.playing.specs.declared.Due.TheVariants.{Answer, State}
use Rattle.playing.specs.declared.Tally.{Tally}
use Rattle.playing.specs.declared.say.Difference.{Difference}
use Rattle.playing.specs.declared.say.Difference.TheVariants.{Missing, Unknown, Number, Messages, Replies, BehindMessages, BehindReplies, Unclean, Field, Digest, TakingsRefused}

-- a number in hexadecimal, of sixteen digits with the zeros in front
abbrev pub digest_text : ℕ → List ℕ
digest_text x = replicate (16 - length (digits 16 false x)) 48 ++ digits 16 false x

-- a difference, without the number of its line
abbrev pub difference_text : Difference → List ℕ
difference_text (Missing Answer) = codes "no answer before it"
difference_text (Missing State) = codes "no state before it"
difference_text Unknown = codes "no line of a trace"
difference_text (Number n) = codes "the number is " ++ decimal n
difference_text (Messages bytes) = codes "the messages are" ++ spaced_pairs bytes.now
difference_text (Replies bytes) = codes "the replies are" ++ spaced_pairs bytes.now
difference_text BehindMessages = codes "bytes behind the messages are written"
difference_text BehindReplies = codes "bytes behind the replies are written"
difference_text Unclean = codes "a refused call changed the memory"
difference_text (Field name x) = name.now ++ codes " is " ++ decimal x
difference_text (Digest name x) = name.now ++ codes " is " ++ digest_text x
difference_text (TakingsRefused n) = codes "takings is refused by " ++ decimal n

-- the counts, in four lines
abbrev pub tally_text : Tally → List ℕ
tally_text t =
    codes "passed over: " ++ decimal t.clients ++ codes " runs of clients, " ++ decimal t.larger ++ codes " runs of larger sizes\n" ++
    codes "nonce and reports: " ++ decimal t.further ++ codes " lines\n" ++
    codes "takings: " ++ decimal t.takings ++ codes " lines\n" ++
    decimal t.runs ++ codes " runs, " ++ decimal t.calls ++ codes " calls, " ++ decimal t.differ ++ codes " differ"
