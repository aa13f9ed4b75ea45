-- How the program ends.
use Rattle.std.specs.Prelude.{ℕ, List, [], ◌∷◌, ◌++◌, codes, string_bytes}
use Rattle.std.specs.declared.io.ErrorKind.{ErrorKind}
use Rattle.std.specs.declared.io.ErrorKind.TheVariants.{OutOfMemory, PermissionDenied}
use Rattle.lic_types.specs.declared.name.NameFault.{NameFault}
use Rattle.lic_types.specs.declared.name.NameFault.TheVariants as name
use Rattle.line_protocol.specs.declared.wire.WireFault.{WireFault}
use Rattle.line_protocol.specs.declared.wire.WireFault.TheVariants.{BadByte, Empty, UnknownWord, WordCount, BadName, BadVersion, BadNumber}
use Rattle.client_talk.specs.declared.cause.Cause.{Cause}
use Rattle.client_talk.specs.declared.cause.Cause.TheVariants as cause
use Rattle.client_talk.specs.declared.client.BadWord.{BadWord}
use Rattle.client_talk.specs.declared.client.ClientWord.{ClientWord}
use Rattle.client_talk.specs.declared.client.ClientWord.TheVariants.{User, Host, Display, Project}
use Rattle.client_talk.specs.declared.lost.Lost.{Lost}
use Rattle.client_talk.specs.declared.lost.Lost.TheVariants.{Fault, Closed, Silent, Garbled, Unasked}
use Rattle.licence_client.specs.declared.ending.End.{End}
use Rattle.licence_client.specs.declared.ending.End.TheVariants.{Done, Usage, NoDaemon, NotAllowed, Stopped}

-- the end where connecting failed
abbrev pub unconnected : ErrorKind → End
unconnected PermissionDenied = NotAllowed
unconnected OutOfMemory = Stopped cause.NoMemory
unconnected kind = NoDaemon

-- the end where the words of the command line could not be read
abbrev pub unread : ErrorKind → End
unread OutOfMemory = Stopped cause.NoMemory
unread kind = Usage

abbrev pub lost_code : Lost → ℕ
lost_code Closed = 4
lost_code Fault = 5
lost_code Silent = 6
lost_code Garbled = 9
lost_code Unasked = 9

abbrev pub cause_code : Cause → ℕ
cause_code (cause.Refused refusal) = 1
cause_code (cause.NoRequest fault) = 2
cause_code cause.TooLong = 2
cause_code (cause.BadWord bad) = 2
cause_code (cause.Lost lost) = lost_code lost
cause_code cause.WriteFault = 7
cause_code cause.NoMemory = 8
cause_code (cause.NoNumbers reply) = 9

-- the exit status
abbrev pub code_of : End → ℕ
code_of Done = 0
code_of Usage = 2
code_of NoDaemon = 3
code_of NotAllowed = 10
code_of (Stopped cause) = cause_code cause

abbrev pub fault_text : WireFault → List ℕ
fault_text BadByte = codes "no request: bad byte\n"
fault_text Empty = codes "no request: empty\n"
fault_text UnknownWord = codes "no request: unknown word\n"
fault_text WordCount = codes "no request: word count\n"
fault_text BadName = codes "no request: bad name\n"
fault_text BadVersion = codes "no request: bad version\n"
fault_text BadNumber = codes "no request: bad number\n"

abbrev pub lost_text : Lost → List ℕ
lost_text Fault = codes "link fault\n"
lost_text Closed = codes "the daemon closed the link\n"
lost_text Silent = codes "no reply\n"
lost_text Garbled = codes "not a reply\n"
lost_text Unasked = codes "an unasked reply\n"

-- a word that says who asks, as its option is called
abbrev pub word_text : ClientWord → List ℕ
word_text User = codes "user"
word_text Host = codes "host"
word_text Display = codes "display"
word_text Project = codes "project"

-- the variable of the environment from which it is taken
abbrev pub variable_text : ClientWord → List ℕ
variable_text User = codes "USER"
variable_text Host = codes "HOSTNAME"
variable_text Display = codes "DISPLAY"
variable_text Project = codes "LM_PROJECT"

abbrev pub name_fault_text : NameFault → List ℕ
name_fault_text name.Empty = codes " is empty"
name_fault_text name.TooLong = codes " has more than 64 bytes"
name_fault_text (name.BadByte at) = codes " has a blank or another byte that isn't from 33 to 126"

-- the word, and what is wrong with it
abbrev pub bad_word_fault : BadWord → List ℕ
bad_word_fault bad = codes "no request: the " ++ word_text bad.word ++ name_fault_text bad.fault

-- where it can be set
abbrev pub word_places : ClientWord → List ℕ
word_places word = codes ": see --" ++ word_text word ++ codes " and " ++ variable_text word ++ 10 ∷ []

abbrev pub bad_word_text : BadWord → List ℕ
bad_word_text bad = bad_word_fault bad ++ word_places bad.word

-- the line of a cause: a refused request is told as itself, its LF, and the reply
abbrev pub cause_line : Cause → List ℕ
cause_line (cause.Refused r) = string_bytes r.request.line ++ r.reply.bytes ++ 10 ∷ []
cause_line (cause.NoRequest fault) = fault_text fault
cause_line cause.TooLong = codes "no request: more than 1,024 bytes\n"
cause_line (cause.BadWord bad) = bad_word_text bad
cause_line (cause.Lost lost) = lost_text lost
cause_line cause.WriteFault = codes "write fault\n"
cause_line cause.NoMemory = codes "no memory\n"
cause_line (cause.NoNumbers reply) = codes "no numbers: " ++ reply.bytes ++ 10 ∷ []

-- the line on standard error
abbrev pub line_of : End → List ℕ
line_of Done = []
line_of Usage = codes "usage\n"
line_of NoDaemon = codes "no daemon at the socket\n"
line_of NotAllowed = codes "permission denied at the socket\n"
line_of (Stopped cause) = cause_line cause
