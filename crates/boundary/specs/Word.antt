-- The answer of a call as one number: docs/BOUNDARY.md, "The answer". What number and value each answer has stands in Answers.antt of
-- `rules`. Assumes nothing.
use Rattle.std.specs.Prelude.{ℕ, ◌+◌, ◌*◌, ◌^◌, ◌/◌, ◌%◌, ◌<◌, ◌≡◌}
use Rattle.rules.specs.declared.Judged.{Judged}
use Rattle.rules.specs.declared.SynJudged.{SynJudged}
use Rattle.rules.specs.Results.{Signed}
use Rattle.rules.specs.Results.{Settled}
use Rattle.rules.specs.Answers.{Answer, verdict_answer, signing_answer, done_answer}

-- "the number in bits 0 to 7; in bits 8 to 15, beside 10 to 17 and 45, whose entry the index names, 0 the key table's, 1 the MD5 table's;
-- zero in bits 16 to 31; a value in bits 32 to 63"
unfoldable pub word : Answer → ℕ
word a = a.number + a.table * 2 ^ 8 + a.value * 2 ^ 32

-- the answer of what a call returns in Rattle
abbrev pub of_judged : Judged → Answer
of_judged j = verdict_answer j.verdict j.index

abbrev pub of_syn_judged : SynJudged → Answer
of_syn_judged c = verdict_answer c.verdict c.index

abbrev pub of_signed : Signed → Answer
of_signed s = signing_answer s.answer s.index

abbrev pub of_settled : Settled → Answer
of_settled s = done_answer s.answer s.index

-- What C reads in the word w: it is there, and nothing else. The word is a u64, so it is below 2^64; NumberFits and TableFits of
-- Numbers.antt say that every call's number and table are below 2^8.
pub record Reads (w : ℕ) (a : Answer) : Type 0 where
  pub number : w % 2 ^ 8 ≡ a.number
  pub table : w / 2 ^ 8 % 2 ^ 8 ≡ a.table
  pub zero : w / 2 ^ 16 % 2 ^ 16 ≡ 0
  pub value : w / 2 ^ 32 ≡ a.value

-- The statement; WordLaws proves it.
abbrev pub WordReads : Type 0
WordReads = (a : Answer) → a.number < 2 ^ 8 → a.table < 2 ^ 8 → word a < 2 ^ 64 → Reads (word a) a
