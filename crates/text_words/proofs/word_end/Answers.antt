-- `text_words::word_end` meets its contract: a word is a part of a line that is cut at its spaces.
use Rattle.text_words.proofs.word_end.Goals as goal

pub returns-clause-place : goal.returns-clause-place
returns-clause-place c = c.part_end.ensures.place

pub returns-clause-within : goal.returns-clause-within
returns-clause-within c = c.part_end.ensures.within
