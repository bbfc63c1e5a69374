-- What is printed of an event, before its line.
use Rattle.std.specs.Prelude.{ℕ, List, [], ◌++◌, codes}
use Rattle.std.specs.Fmt.{decimal}
use Rattle.desk.specs.Judge.{Event, Unsolicited, Taken, Done, Short, Failed, Stray, Overlong, Echo}
use Rattle.desk.specs.Says.{event_says}
use Rattle.desk.specs.declared.feed.Heard.{Heard}

abbrev pub word_of : Event → List ℕ
word_of Overlong = codes "overlong"
word_of (Stray n) = codes "stray"
word_of Failed = codes "failed"
word_of Taken = codes "taken"
word_of Done = codes "done"
word_of Short = codes "short"
word_of Unsolicited = codes "unsolicited"
word_of Echo = codes "echo"

-- a stray's number, behind a space
abbrev pub number_behind : Event → List ℕ
number_behind Overlong = []
number_behind (Stray n) = codes " " ++ decimal n
number_behind Failed = []
number_behind Taken = []
number_behind Done = []
number_behind Short = []
number_behind Unsolicited = []
number_behind Echo = []

-- the event's word, the ordinal of its line in decimal, and a stray's number likewise
abbrev pub said_text : Heard → List ℕ
said_text h = word_of (event_says h.event) ++ codes " " ++ decimal h.ordinal ++ number_behind (event_says h.event)
