-- How a command ends that reads an input and writes a text of it.
use Rattle.std.proofs.Common.{◌≡◌, ◌↔◌, ◌⊎◌, ℕ, List, false, Option, None, Result, Ok, Err, IsErrAnd, OnErr, refl, inl, inr, sym, subst}
use Rattle.std.specs.Prelude.{⊤}
use Rattle.avida_program.proofs.Prelude.{SinkState, SourceState, PutFailed, Change, Stays, change, unchanged, WritesAll, SinkStop, CallError, Command, Refusal, OnBytes, SourceFailed, Work, WritesText, GivesInput, GivesNoInput, ReadsAndWrites, ended_by, leaves_world, looks_of, CarriesOut, Does, Reads, ReadsInput, GivenBy, IsInputWith, Ended}
use Rattle.avida_port.specs.declared.sink.SinkStop.TheVariants as stop
use Rattle.avida_program.specs.declared.call_error.CallError.TheVariants as error

-- a fault has its cause
abbrev pub IsCaused : Command → Work → Ended → Type 0
IsCaused command work (Ok done) = ⊤
IsCaused command work (Err error.BadWords) = ⊥
IsCaused command work (Err (error.BadInput why)) = ⊤
IsCaused command work (Err error.ReadFault) = SourceFailed work.source
IsCaused command work (Err error.WriteFault) = PutFailed (looks_of command) work.out work.watch
IsCaused command work (Err error.Memory) = ⊤

-- a command is carried out that has its cause, leaves what it has to, and does what it does
pub carried : (command : Command) (work : Work) (ended : Ended) → IsCaused command work ended
    → (looks_of command ≡ None → Stays work.watch) → OnErr ended (Stays work.last)
    → (leaves_world command ≡ false → Stays work.last) → Does command work ended
    → CarriesOut command work ended
carried command work ended cause watch last no_world does = record {
  words = λ is. subst (IsCaused command work) is cause;
  read_fault = λ is. subst (IsCaused command work) is cause;
  write_fault = λ is. subst (IsCaused command work) is cause;
  watch_stays = watch;
  last_stays = last;
  no_world = no_world;
  does = does;
}

-- what stays, stays where a call isn't done
if_not_done : (P : Type 0) (ended : Ended) → P → OnErr ended P
if_not_done P (Ok done) h = tt
if_not_done P (Err e) h = h

-- what holds of an error holds of how a call ends that gives it
gives_error : (ended : Ended) (P : CallError → Type 0) (e : CallError)
    → IsErrAnd ended (λ given. given ≡ e) → P e → IsErrAnd ended P
gives_error (Ok done) P e is h = absurd is
gives_error (Err given) P e is h = subst P (sym is) h

-- no input was read
pub not_read : {A : Type 0} {input_of : List ℕ → Result A Refusal} {text_of : A → List ℕ}
    {source : Change SourceState} {out : SinkState} {ended : Ended} (e : CallError)
    → IsErrAnd ended (λ given. given ≡ e) → GivesNoInput input_of source e
    → ReadsAndWrites input_of text_of source (unchanged out) ended
not_read {input_of = input_of} {source = source} {ended = ended} e is h =
    record { by_input = inl (refl, gives_error ended (GivesNoInput input_of source) e is h) }

-- a text is written, or stops
pub text_ended : {T : Type 0} {a b : SinkState} (text : List ℕ) (r : Result T SinkStop)
    → WritesAll a b text r → WritesText text (change a b) (ended_by r)
text_ended text (Ok t) wrote = wrote.ok
text_ended text (Err stop.Fault) wrote = (wrote.fault refl, wrote.err)
text_ended text (Err stop.Memory) wrote = wrote.err

-- an input was read, and its text is written, or stops
pub read_and_wrote : {A T : Type 0} {input_of : List ℕ → Result A Refusal} {text_of : A → List ℕ}
    {source : Change SourceState} {a b : SinkState} {input : A} {r : Result T SinkStop}
    {ended : Ended} → GivesInput input_of source input → WritesAll a b (text_of input) r
    → ended ≡ ended_by r → ReadsAndWrites input_of text_of source (change a b) ended
read_and_wrote {text_of = text_of} {a = a} {b = b} {input = input} {r = r} read wrote is =
    let text = text_of input in
    let so = subst (WritesText text (change a b)) (sym is) (text_ended text r wrote) in
    record { by_input = inr (input, read, so) }

-- where no input is read, a fault has its cause
pub nothing_caused : {A : Type 0} (input_of : List ℕ → Result A Refusal) (command : Command)
    (work : Work) (e : CallError) → GivesNoInput input_of work.source e
    → IsCaused command work (Err e)
nothing_caused input_of command work error.BadWords h = h
nothing_caused input_of command work (error.BadInput why) h = tt
nothing_caused input_of command work error.ReadFault h = h
nothing_caused input_of command work error.WriteFault h = absurd h
nothing_caused input_of command work error.Memory h = tt

-- where a text is written, a fault has its cause
pub text_caused : (command : Command) → looks_of command ≡ None → (work : Work) (text : List ℕ)
    (ended : Ended) → WritesText text work.out ended → IsCaused command work ended
text_caused command alone work text (Ok done) wrote = tt
text_caused command alone work text (Err error.BadWords) wrote = wrote
text_caused command alone work text (Err (error.BadInput why)) wrote = tt
text_caused command alone work text (Err error.ReadFault) wrote = absurd wrote
text_caused command alone work text (Err error.WriteFault) wrote =
    subst (λ looks. PutFailed looks work.out work.watch) (sym alone) wrote.0
text_caused command alone work text (Err error.Memory) wrote = tt

module _ {A : Type 0} (input_of : List ℕ → Result A Refusal) (text_of : A → List ℕ) where
  -- of no input nothing is written
  pub nothing_read : (looks : Option ℕ) (work : Work) (e : CallError)
      → GivesNoInput input_of work.source e → Stays work.out
      → OnBytes work.source (λ bytes.
      ReadsInput looks (GivenBy input_of bytes) text_of work (Err e))
  nothing_read looks work error.BadWords h stays = absurd h
  nothing_read looks work (error.BadInput why) h stays = λ bytes told. (stays, h bytes told)
  nothing_read looks work error.ReadFault h stays = λ bytes told. (stays, h)
  nothing_read looks work error.WriteFault h stays = absurd h
  nothing_read looks work error.Memory h stays = λ bytes told. inl stays

  -- the text of an input is written, or stops
  input_read : (work : Work) (ended : Ended) (input : A) → GivesInput input_of work.source input
      → WritesText (text_of input) work.out ended → Reads (GivenBy input_of) text_of work ended
  input_read work (Ok done) input read wrote =
      λ bytes told. (read.whole bytes told, (input, read.reads bytes told, wrote))
  input_read work (Err error.BadWords) input read wrote = absurd wrote
  input_read work (Err (error.BadInput why)) input read wrote = absurd wrote
  input_read work (Err error.ReadFault) input read wrote = absurd wrote
  input_read work (Err error.WriteFault) input read wrote =
      λ bytes told. (wrote.0, (input, read.reads bytes told, wrote.1))
  input_read work (Err error.Memory) input read wrote =
      λ bytes told. inr (input, read.reads bytes told, wrote)

  -- what it reads and writes, and what causes a fault
  pub reads_and_writes : (command : Command) → looks_of command ≡ None → (work : Work)
      (ended : Ended) → ReadsAndWrites input_of text_of work.source work.out ended
      → IsCaused command work ended × Reads (GivenBy input_of) text_of work ended
  reads_and_writes command alone work ended so = by ended so.by_input
    where
      by : (end : Ended)
          → ((Stays work.out × IsErrAnd end (GivesNoInput input_of work.source))
          ⊎ ((input : A) × GivesInput input_of work.source input
          × WritesText (text_of input) work.out end))
          → IsCaused command work end × Reads (GivenBy input_of) text_of work end
      by (Ok done) (inl h) = absurd h.1
      by (Err e) (inl h) =
          (nothing_caused input_of command work e h.1, nothing_read None work e h.1 h.0)
      by end (inr an) = (
        text_caused command alone work (text_of an.0) end an.2,
        input_read work end an.0 an.1 an.2,
      )

  -- a command that only reads and writes is carried out
  pub only_reads : (command : Command)
      → ((work : Work) (ended : Ended) → Reads (GivenBy input_of) text_of work ended
      → Does command work ended)
      → looks_of command ≡ None → (work : Work) (ended : Ended) → Stays work.watch → Stays work.last
      → ReadsAndWrites input_of text_of work.source work.out ended → CarriesOut command work ended
  only_reads command row alone work ended watch last so =
      let does = reads_and_writes command alone work ended so in
      carried command work ended does.0 (λ is. watch)
      (if_not_done (Stays work.last) ended last) (λ is. last) (row work ended does.1)

module _ {A : Type 0} (input_of : List ℕ → Result A Refusal)
    (reading : List ℕ → Result A Refusal → Type 0)
    (exactly : (bytes : List ℕ) (answer : Result A Refusal)
    → reading bytes answer ↔ (input_of bytes ≡ answer)) where
  -- an input that the function gives is one that is read
  input_read_so : {P : A → Type 0} (bytes : List ℕ) → IsInputWith (GivenBy input_of bytes) P
      → IsInputWith (reading bytes) P
  input_read_so bytes given = (given.0, (exactly bytes (Ok given.0)).1 given.1, given.2)

  -- what reads by the function reads so
  pub reads_so : (text_of : A → List ℕ) (work : Work) (ended : Ended)
      → Reads (GivenBy input_of) text_of work ended → Reads reading text_of work ended
  reads_so text_of work (Ok done) reads = λ bytes told.
      let did = reads bytes told in (did.0, input_read_so bytes did.1)
  reads_so text_of work (Err error.BadWords) reads = reads
  reads_so text_of work (Err (error.BadInput why)) reads = λ bytes told.
      let did = reads bytes told in (did.0, (exactly bytes (Err why)).1 did.1)
  reads_so text_of work (Err error.ReadFault) reads = reads
  reads_so text_of work (Err error.WriteFault) reads = λ bytes told.
      let did = reads bytes told in (did.0, input_read_so bytes did.1)
  reads_so text_of work (Err error.Memory) reads = λ bytes told.
      elim (reads bytes told)
      [ inl stays ↦ inl stays | inr given ↦ inr (input_read_so bytes given) ]
