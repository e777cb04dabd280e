-- Worked pages, with their texts by hand.
use Rattle.std.specs.Prelude.{◌≡◌, [], ◌∷◌, codes}
use Rattle.rb_page.specs.Escape.{escaped}
use Rattle.rb_page.specs.Page.{page_text}

-- markup becomes references, and other printable bytes stand as they are
abbrev pub Escapes : Type 0
Escapes = escaped (codes "a <b> & \"c\";\n") ≡ codes "a &#60;b&#62; &#38; \"c\";\n"

-- NUL, the tab, CR, and bytes that are no ASCII
abbrev pub Others : Type 0
Others = escaped (0 ∷ 9 ∷ 13 ∷ 126 ∷ 127 ∷ 195 ∷ 255 ∷ []) ≡ codes "&#0;\t&#13;~&#127;&#195;&#255;"

-- each text stands in the place of its mark
abbrev pub AllMarks : Type 0
AllMarks = page_text (codes "<a>@SOURCE@<b>@SCHEDULE@<c>@TRACE@<d>") (codes "x<y") (codes "p 1") (codes "1 turn") ≡ codes "<a>x&#60;y<b>p 1<c>1 turn<d>"

-- without marks all three stand at the end
abbrev pub NoMark : Type 0
NoMark = page_text (codes "<a>") (codes "x") (codes "y") (codes "z") ≡ codes "<a>xyz"

-- a mark in a text that is put in is none, and a mark's second place stays as it is
abbrev pub MarkInText : Type 0
MarkInText = page_text (codes "@SOURCE@/@SCHEDULE@/@TRACE@") (codes "@TRACE@") (codes "y") (codes "z") ≡ codes "@TRACE@/y/z"

abbrev pub Twice : Type 0
Twice = page_text (codes "@SOURCE@@SOURCE@@SCHEDULE@@TRACE@@TRACE@") (codes "x") (codes "y") (codes "z") ≡ codes "x@SOURCE@yz@TRACE@"

-- a mark that stands before the one before it is none
abbrev pub OutOfOrder : Type 0
OutOfOrder = page_text (codes "@SCHEDULE@-@SOURCE@.@TRACE@") (codes "x") (codes "y") (codes "z") ≡ codes "@SCHEDULE@-x.@TRACE@yz"
