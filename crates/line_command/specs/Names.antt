-- The words of the commands, letter by letter: "a" is the byte 97, and so on to "z", 122.
-- docs/COMMANDS.md has the commands themselves.
use Rattle.std.specs.Prelude.{ℕ, List, [], ◌∷◌}

-- "length"
abbrev pub length_word : List ℕ
length_word = 108 ∷ 101 ∷ 110 ∷ 103 ∷ 116 ∷ 104 ∷ []

-- "line"
abbrev pub line_word : List ℕ
line_word = 108 ∷ 105 ∷ 110 ∷ 101 ∷ []

-- "lists"
abbrev pub lists_word : List ℕ
lists_word = 108 ∷ 105 ∷ 115 ∷ 116 ∷ 115 ∷ []

-- "scan"
abbrev pub scan_word : List ℕ
scan_word = 115 ∷ 99 ∷ 97 ∷ 110 ∷ []

-- "show"
abbrev pub show_word : List ℕ
show_word = 115 ∷ 104 ∷ 111 ∷ 119 ∷ []

-- "blank"
abbrev pub blank_word : List ℕ
blank_word = 98 ∷ 108 ∷ 97 ∷ 110 ∷ 107 ∷ []

-- "room"
abbrev pub room_word : List ℕ
room_word = 114 ∷ 111 ∷ 111 ∷ 109 ∷ []

-- "lend"
abbrev pub lend_word : List ℕ
lend_word = 108 ∷ 101 ∷ 110 ∷ 100 ∷ []

-- "stl"
abbrev pub stl_word : List ℕ
stl_word = 115 ∷ 116 ∷ 108 ∷ []

-- "triangle"
abbrev pub triangle_word : List ℕ
triangle_word = 116 ∷ 114 ∷ 105 ∷ 97 ∷ 110 ∷ 103 ∷ 108 ∷ 101 ∷ []

-- "load-stl", with the byte 45 for the "-"
abbrev pub load_stl_word : List ℕ
load_stl_word = 108 ∷ 111 ∷ 97 ∷ 100 ∷ 45 ∷ 115 ∷ 116 ∷ 108 ∷ []

-- "off"
abbrev pub off_word : List ℕ
off_word = 111 ∷ 102 ∷ 102 ∷ []

-- "load-off"
abbrev pub load_off_word : List ℕ
load_off_word = 108 ∷ 111 ∷ 97 ∷ 100 ∷ 45 ∷ 111 ∷ 102 ∷ 102 ∷ []

-- "save-off"
abbrev pub save_off_word : List ℕ
save_off_word = 115 ∷ 97 ∷ 118 ∷ 101 ∷ 45 ∷ 111 ∷ 102 ∷ 102 ∷ []

-- "write"
abbrev pub write_word : List ℕ
write_word = 119 ∷ 114 ∷ 105 ∷ 116 ∷ 101 ∷ []

-- "spoil"
abbrev pub spoil_word : List ℕ
spoil_word = 115 ∷ 112 ∷ 111 ∷ 105 ∷ 108 ∷ []

-- "load"
abbrev pub load_word : List ℕ
load_word = 108 ∷ 111 ∷ 97 ∷ 100 ∷ []

-- "place"
abbrev pub place_word : List ℕ
place_word = 112 ∷ 108 ∷ 97 ∷ 99 ∷ 101 ∷ []

-- "move"
abbrev pub move_word : List ℕ
move_word = 109 ∷ 111 ∷ 118 ∷ 101 ∷ []

-- "remove"
abbrev pub remove_word : List ℕ
remove_word = 114 ∷ 101 ∷ 109 ∷ 111 ∷ 118 ∷ 101 ∷ []

-- "gap"
abbrev pub gap_word : List ℕ
gap_word = 103 ∷ 97 ∷ 112 ∷ []

-- "pair"
abbrev pub pair_word : List ℕ
pair_word = 112 ∷ 97 ∷ 105 ∷ 114 ∷ []

-- "fresh"
abbrev pub fresh_word : List ℕ
fresh_word = 102 ∷ 114 ∷ 101 ∷ 115 ∷ 104 ∷ []

-- "contacts"
abbrev pub contacts_word : List ℕ
contacts_word = 99 ∷ 111 ∷ 110 ∷ 116 ∷ 97 ∷ 99 ∷ 116 ∷ 115 ∷ []

-- "rows"
abbrev pub rows_word : List ℕ
rows_word = 114 ∷ 111 ∷ 119 ∷ 115 ∷ []

-- "tallies"
abbrev pub tallies_word : List ℕ
tallies_word = 116 ∷ 97 ∷ 108 ∷ 108 ∷ 105 ∷ 101 ∷ 115 ∷ []

-- "marks"
abbrev pub marks_word : List ℕ
marks_word = 109 ∷ 97 ∷ 114 ∷ 107 ∷ 115 ∷ []

-- "report"
abbrev pub report_word : List ℕ
report_word = 114 ∷ 101 ∷ 112 ∷ 111 ∷ 114 ∷ 116 ∷ []
