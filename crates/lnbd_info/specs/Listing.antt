-- The text of a listing: nbdinfo(1), "The output". A text is the list of its UTF-8 bytes.
use Rattle.std.specs.Prelude.{ℕ, Bool, if◌then◌else◌, List, [], ◌∷◌, ◌++◌, Option, Some, None, Result, Ok, Err, codes, decimal, flat_map, unwrap_or}
use Rattle.lnbd_model.specs.declared.export.Blocks.{Blocks}
use Rattle.lnbd_model.specs.declared.export.Context.{Context}
use Rattle.lnbd_model.specs.declared.export.ExportInfo.{ExportInfo}
use Rattle.lnbd_model.specs.declared.export.Listed.{Listed}
use Rattle.lnbd_args.specs.declared.asked.Predicate.{Predicate}
use Rattle.lnbd_args.specs.declared.asked.Predicate.TheVariants.{IsReadOnly, IsRotational, IsTls, CanCache, CanDf, CanFastZero, CanFlush, CanFua, CanMultiConn, CanTrim, CanZero, CanWrite, CanRead, CanConnect, CanStructuredReply}
use Rattle.lnbd_texts.specs.Information.{truth_text}
use Rattle.lnbd_texts.specs.Quoted.{quoted_text}
use Rattle.lnbd_info.specs.declared.told.Entry.{Entry}
use Rattle.lnbd_info.specs.declared.told.Found.{Found}
use Rattle.lnbd_info.specs.Predicates.{is_true_of}

-- ---- what is told

-- An export that was asked for by its address, as an entry: the address's name, and the told description or an empty one.
abbrev pub entry_of : Found → Entry
entry_of found = record {
  listed = record { name = found.place.name; description = unwrap_or found.info.description [] };
  told = Ok found.info;
}

-- what was told, unless it was refused
abbrev pub told_or : Result ExportInfo ℕ → Option ExportInfo → Option ExportInfo
told_or (Ok info) other = Some info
told_or (Err code) other = other

-- what was told of the first export that was not refused: all were told of on one connection
abbrev pub first_told : List Entry → Option ExportInfo
first_told [] = None
first_told (entry ∷ more) = told_or entry.told (first_told more)

-- the listed description, and the told one where that is empty
abbrev pub description_of : Listed → ExportInfo → List ℕ
description_of listed info = first_filled listed.description (unwrap_or info.description [])
  where
    first_filled : List ℕ → List ℕ → List ℕ
    first_filled [] other = other
    first_filled (b ∷ bs) other = b ∷ bs

-- the agreed contexts, which a plain listing alone shows
abbrev pub shown_contexts : Bool → ExportInfo → List Context
shown_contexts contexts info = if contexts then info.contexts else []

-- the name of a question's line, and of its key in JSON
abbrev pub key_of : Predicate → List ℕ
key_of IsReadOnly = codes "is_read_only"
key_of IsRotational = codes "is_rotational"
key_of IsTls = codes "is_tls"
key_of CanCache = codes "can_cache"
key_of CanDf = codes "can_df"
key_of CanFastZero = codes "can_fast_zero"
key_of CanFlush = codes "can_flush"
key_of CanFua = codes "can_fua"
key_of CanMultiConn = codes "can_multi_conn"
key_of CanTrim = codes "can_trim"
key_of CanZero = codes "can_zero"
key_of CanWrite = codes "can_write"
key_of CanRead = codes "can_read"
key_of CanConnect = codes "can_connect"
key_of CanStructuredReply = codes "can_structured_reply"

-- the questions that a listing answers, in the order of its lines
abbrev pub questions : List Predicate
questions = IsRotational ∷ IsReadOnly ∷ CanCache ∷ CanDf ∷ CanFastZero ∷ CanFlush ∷ CanFua ∷ CanMultiConn ∷ CanTrim ∷ CanZero ∷ []

-- ---- lines

-- a tab, a name, and what it has
abbrev pub line : List ℕ → List ℕ → List ℕ
line name value = codes "\t" ++ (name ++ (codes ": " ++ (value ++ codes "\n")))

-- the packets that are spoken, by what was told of an export
abbrev pub packets_text : Option ExportInfo → List ℕ
packets_text None = codes "simple"
packets_text (Some info) = if info.extended then codes "extended" else if info.structured then codes "structured" else codes "simple"

-- none for an empty description
abbrev pub description_line : List ℕ → List ℕ
description_line [] = []
description_line (b ∷ bs) = line (codes "description") (quoted_text (b ∷ bs))

abbrev pub context_line : Context → List ℕ
context_line context = codes "\t\t" ++ (context.name ++ codes "\n")

-- a context a line; nothing where there is none
abbrev pub contexts_lines : List Context → List ℕ
contexts_lines [] = []
contexts_lines (first ∷ more) = codes "\tcontexts:\n" ++ flat_map context_line (first ∷ more)

abbrev pub answer_line : ExportInfo → Predicate → List ℕ
answer_line info question = line (key_of question) (truth_text (is_true_of question info))

abbrev pub sizes_lines : Blocks → List ℕ
sizes_lines blocks =
    line (codes "block_size_minimum") (decimal blocks.minimum)
    ++ (line (codes "block_size_preferred") (decimal blocks.preferred) ++ line (codes "block_size_maximum") (decimal blocks.maximum))

-- nothing where no sizes of blocks were told
abbrev pub blocks_lines : Option Blocks → List ℕ
blocks_lines None = []
blocks_lines (Some blocks) = sizes_lines blocks

abbrev pub told_lines : Bool → Listed → ExportInfo → List ℕ
told_lines contexts listed info =
    description_line (description_of listed info)
    ++ (line (codes "export-size") (decimal info.size)
    ++ (contexts_lines (shown_contexts contexts info)
    ++ (flat_map (answer_line info) questions ++ blocks_lines info.blocks)))

-- what was told of an export, or the code of the refusal
abbrev pub outcome_lines : Bool → Listed → Result ExportInfo ℕ → List ℕ
outcome_lines contexts listed (Ok info) = told_lines contexts listed info
outcome_lines contexts listed (Err code) = line (codes "error") (decimal code)

abbrev pub entry_text : Bool → Entry → List ℕ
entry_text contexts entry = codes "export=" ++ (quoted_text entry.listed.name ++ (codes ":\n" ++ outcome_lines contexts entry.listed entry.told))

-- what `--size` prints
abbrev pub size_text : ExportInfo → List ℕ
size_text info = decimal info.size ++ codes "\n"

abbrev pub protocol_line : Option ExportInfo → List ℕ
protocol_line told = codes "protocol: newstyle-fixed without TLS, using " ++ (packets_text told ++ codes " packets\n")

abbrev pub listing_text : Bool → List Entry → List ℕ
listing_text contexts entries = protocol_line (first_told entries) ++ flat_map (entry_text contexts) entries
