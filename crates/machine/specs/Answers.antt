-- What accepted calls answer, as the rules have it.
use Rattle.std.specs.Prelude.{List, [], ◌∷◌}
use Rattle.tables.specs.declared.message.Message.{Message}
use Rattle.rules.specs.Calls.{Answer}
use Rattle.machine.specs.declared.answer.Sent.{Sent}
use Rattle.machine.specs.declared.answer.Sent.TheVariants.{Nothing, One, Two}
use Rattle.machine.specs.declared.answer.Access.{Access}

abbrev pub sent_list : Sent → List Message
sent_list Nothing = []
sent_list (One m) = m ∷ []
sent_list (Two m n) = m ∷ n ∷ []

abbrev pub access_answer : Access → Answer
access_answer a = record { level = a.level; word = a.word; block = []; sent = sent_list a.sent }
