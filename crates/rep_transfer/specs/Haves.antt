-- What a joiner says of itself, and what a transfer begins with, as bytes.
use Rattle.std.specs.Prelude.{◌≡◌, ℕ, ◌^◌, ◌<◌, List, ◌∷◌, ◌++◌, codes, Some}
use Rattle.rep_forms.specs.Forms.{Form, IsPart, number, number_bytes, part_of, ◌⊗◌, marked, via, as_named}
use Rattle.rep_layout.specs.Formats.{digit_of, format_form}
use Rattle.rep_layout.specs.Supers.{IsNil}
use Rattle.rep_transfer.specs.declared.have.Have.{Have}
use Rattle.rep_transfer.specs.declared.header.Header.{Header}
use Rattle.rep_transfer.specs.Shapes.{IsShape, shape_bytes, shape_form}

-- ---- what a joiner has

-- What a joiner can say: a position, which is 0 where it belongs to no cluster yet.
pub record IsHave (h : Have) : Type 0 where
  pub uuid : IsPart 16 h.uuid
  pub position : h.position < 2 ^ 64
  pub shape : IsShape h.shape
  pub undefined : IsNil h.uuid → h.position ≡ 0

-- the first eight bytes: REPHAVE1
unfoldable pub have_mark : List ℕ
have_mark = codes "REPHAVE1"

-- What a joiner has, in 67 bytes: the mark, the UUID, the position, and the shape.
abbrev pub have_bytes : Have → List ℕ
have_bytes h = have_mark ++ (h.uuid ++ (number_bytes 8 h.position ++ shape_bytes h.shape))

abbrev pub have_fields : Form Have
have_fields =
    via (marked have_mark (part_of 16 ⊗ (number 8 ⊗ shape_form))) (λ (h : Have). (h.uuid, (h.position, h.shape)))
    (λ x. Some (record { uuid = x.0; position = x.1.0; shape = x.1.1 }))

abbrev pub have_form : Form Have
have_form = as_named have_fields IsHave have_bytes

-- ---- what a transfer begins with

-- What a transfer can begin with: it comes from a node of a cluster.
pub record IsHeader (h : Header) : Type 0 where
  pub uuid : IsPart 16 h.uuid
  pub defined : IsNil h.uuid → ⊥
  pub shape : IsShape h.shape

-- the first seven bytes, in front of the format's digit
unfoldable pub header_mark : List ℕ
header_mark = codes "REPXFER"

-- A transfer's header, of 59 bytes: the mark, the format's digit, the donor's UUID, and its shape.
abbrev pub header_bytes : Header → List ℕ
header_bytes h = header_mark ++ (digit_of h.format ∷ (h.uuid ++ shape_bytes h.shape))

abbrev pub header_fields : Form Header
header_fields =
    via (marked header_mark (format_form ⊗ (part_of 16 ⊗ shape_form))) (λ (h : Header). (h.format, (h.uuid, h.shape)))
    (λ x. Some (record { format = x.0; uuid = x.1.0; shape = x.1.1 }))

abbrev pub header_form : Form Header
header_form = as_named header_fields IsHeader header_bytes
