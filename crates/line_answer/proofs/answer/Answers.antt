-- `line_answer::answer` meets its contract: by what was found that the line says.
use mathlib.Core.Path.{refl}
use Rattle.line_answer.specs.AnsweredLaws.{answered_told, answered_asked, answered_spoiled, answered_file, answered_saved, answered_other}
use Rattle.line_answer.proofs.answer.Goals as goal

pub returns-in-Tell-clause-answered : goal.returns-in-Tell-clause-answered
returns-in-Tell-clause-answered o c =
    let s = c.says in
    answered_told _ s.ensures _ _ (λ _. refl) c.in-Tell.is c.tell.ensures.does

pub returns-in-Ask-clause-answered : goal.returns-in-Ask-clause-answered
returns-in-Ask-clause-answered o c =
    answered_asked _ c.says.ensures _ _ (λ _. refl) c.in-Ask.is refl

pub returns-in-Spoil-clause-answered : goal.returns-in-Spoil-clause-answered
returns-in-Spoil-clause-answered o c =
    answered_spoiled _ c.says.ensures _ _ (λ _. refl) c.in-Spoil.is c.spoil.ensures.stays

pub returns-in-LoadFile-clause-answered : goal.returns-in-LoadFile-clause-answered
returns-in-LoadFile-clause-answered o c =
    answered_file _ c.says.ensures _ _ (λ _. refl) c.in-LoadFile.is c.load_file.ensures.does

pub returns-in-SaveFile-clause-answered : goal.returns-in-SaveFile-clause-answered
returns-in-SaveFile-clause-answered o c =
    answered_saved _ c.says.ensures _ _ (λ _. refl) c.in-SaveFile.is refl

pub returns-in-Other-clause-answered : goal.returns-in-Other-clause-answered
returns-in-Other-clause-answered o c =
    answered_other _ c.says.ensures _ _ c.other.ensures.stays c.in-Other.is refl
