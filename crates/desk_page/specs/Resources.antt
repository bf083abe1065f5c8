-- What a browser loads for the page.
use Rattle.std.specs.Prelude.{ℕ, List, codes, bytes_eq, Option, Some, None, if◌then◌else◌}
use Rattle.desk_page.specs.declared.resource.Resource.{Resource}
use Rattle.desk_page.specs.declared.resource.Resource.TheVariants.{Page, Style, Values, Frame, Forms, Records, Views, German}
use Rattle.desk_page.specs.declared.page.TheConstants.{PAGE, PAGE_TAG}
use Rattle.desk_page.specs.declared.style.TheConstants.{STYLE, STYLE_TAG}
use Rattle.desk_page.specs.declared.values.TheConstants.{VALUES, VALUES_TAG}
use Rattle.desk_page.specs.declared.frame.TheConstants.{FRAME, FRAME_TAG}
use Rattle.desk_page.specs.declared.forms.TheConstants.{FORMS, FORMS_TAG}
use Rattle.desk_page.specs.declared.records.TheConstants.{RECORDS, RECORDS_TAG}
use Rattle.desk_page.specs.declared.views.TheConstants.{VIEWS, VIEWS_TAG}
use Rattle.desk_page.specs.declared.german.TheConstants.{GERMAN, GERMAN_TAG}

-- the resource at a path
abbrev pub resource_at : List ℕ → Option Resource
resource_at path =
    if bytes_eq path (codes "/") then Some Page
    else if bytes_eq path (codes "/desk.css") then Some Style
    else if bytes_eq path (codes "/values.js") then Some Values
    else if bytes_eq path (codes "/desk.js") then Some Frame
    else if bytes_eq path (codes "/forms.js") then Some Forms
    else if bytes_eq path (codes "/records.js") then Some Records
    else if bytes_eq path (codes "/views.js") then Some Views
    else if bytes_eq path (codes "/german.json") then Some German
    else None

-- its bytes
unfoldable pub bytes_of : Resource → List ℕ
bytes_of Page = PAGE.now
bytes_of Style = STYLE.now
bytes_of Values = VALUES.now
bytes_of Frame = FRAME.now
bytes_of Forms = FORMS.now
bytes_of Records = RECORDS.now
bytes_of Views = VIEWS.now
bytes_of German = GERMAN.now

-- its entity tag
unfoldable pub tag_of : Resource → List ℕ
tag_of Page = PAGE_TAG.now
tag_of Style = STYLE_TAG.now
tag_of Values = VALUES_TAG.now
tag_of Frame = FRAME_TAG.now
tag_of Forms = FORMS_TAG.now
tag_of Records = RECORDS_TAG.now
tag_of Views = VIEWS_TAG.now
tag_of German = GERMAN_TAG.now

-- its media type
abbrev pub media_type_of : Resource → List ℕ
media_type_of Page = codes "text/html; charset=utf-8"
media_type_of Style = codes "text/css"
media_type_of Values = codes "text/javascript"
media_type_of Frame = codes "text/javascript"
media_type_of Forms = codes "text/javascript"
media_type_of Records = codes "text/javascript"
media_type_of Views = codes "text/javascript"
media_type_of German = codes "application/json"
