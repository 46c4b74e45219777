use Rattle.std.proofs.Common.{◌≡◌, [], ◌∷◌, inl, inr}
use Rattle.command_line.proofs.Prelude.{ErrorKind, kind_of, HasKind, IsAmong, refused_by, IsRefusedBy, Memory, BadWords, Refused}
use Rattle.clap.specs.Words.{Kinds}
use Rattle.clap.specs.declared.error.Error.{Error}
use Rattle.command_line.proofs.parser.matches.Goals as goal

some_kind : (k : ErrorKind) (kinds : Kinds) → IsAmong k kinds → (r : Refused) → IsRefusedBy kinds r
some_kind k [] h r = absurd h
some_kind k (x ∷ xs) h Memory = tt
some_kind k (x ∷ xs) h BadWords = tt

refused_kind : (e : Error) (k : ErrorKind) (r : Refused) (kinds : Kinds) → HasKind kinds e
    → k ≡ kind_of e → r ≡ refused_by k → IsRefusedBy kinds r
refused_kind e k r kinds (inl memory) same by = rw (by, same, memory) tt
refused_kind e k r kinds (inr among) same by = some_kind (kind_of e) kinds among r

pub returns-in-Err : goal.returns-in-Err
returns-in-Err c =
    refused_kind c.in-Err.error c.kind.result c.refused_by.result _
    (c.in-Err.ensures.kinds c.requires.free)
    c.kind.ensures c.refused_by.ensures
